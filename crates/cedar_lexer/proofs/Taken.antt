-- Which tokens come next.
use Rattle.std.proofs.Common.{◌≡◌, ◌≤◌, List, [], ◌∷◌, length, get_or, arith}
use Rattle.cedar_lexer.specs.TokenStreams.{BeginsWith, BeginsWithPair, first_or}
use Rattle.cedar_lexer.specs.declared.token.TokenKind.{TokenKind}
use Rattle.cedar_lexer.specs.declared.token.Token.{Token}

-- a list that begins with a token of the kind has it first
pub first_begins : (kind : TokenKind) (end : Token) (ts : List Token) → BeginsWith kind ts → (first_or end ts).kind ≡ kind
first_begins kind end [] h = absurd h
first_begins kind end (t ∷ ts) h = h

-- the first two
pub pair_begins : (first second : TokenKind) (ts : List Token) (d : Token) → 2 ≤ length ts → (get_or ts 0 d).kind ≡ first
    → (get_or ts 1 d).kind ≡ second → BeginsWithPair first second ts
pair_begins first second [] d h a b = absurd (omega arith)
pair_begins first second (x ∷ []) d h a b = absurd (omega arith)
pair_begins first second (x ∷ y ∷ ts) d h a b = (a, b)
