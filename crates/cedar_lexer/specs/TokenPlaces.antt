-- Where the tokens of a text stand.
use Rattle.std.specs.Prelude.{◌≡◌, ◌==◌, codes, if◌then◌else◌, slice_index, ℕ, ◌+◌, ◌-◌, ◌<◌, ◌≤◌, List, [], ◌∷◌, ◌++◌, length, ⊤}
use Rattle.std.specs.Char.{len_utf8}
use Rattle.std.specs.Str.{chars}
use Rattle.cedar_lexer.specs.Blanks.{HasBlanks, HasNoBlank}
use Rattle.cedar_lexer.specs.Grammar.{HasNoToken, IsLongestIn, IsTokenText}
use Rattle.cedar_lexer.specs.declared.parse_failure.ParseFailure.{ParseFailure}
use Rattle.cedar_lexer.specs.declared.parse_failure.ParseFailure.TheVariants as failure
use Rattle.cedar_lexer.specs.declared.token.Token.{Token}

-- the token is the longest that the text begins with, and the rest follows it; the text begins at this place
abbrev pub IsTokenAt : ℕ → List ℕ → Token → List ℕ → Type 0
IsTokenAt at text t rest =
    (t.span.start ≡ at) × (t.span.stop ≡ at + length t.text.now) × (0 < length t.text.now) × (text ≡ t.text.now ++ rest)
    × IsTokenText t.text.now t.kind × IsLongestIn text t.text.now

-- the text is the tokens, each where its span says, with blanks around them, and then the rest; the text begins at
-- this place
abbrev pub AreTokensBefore : ℕ → List ℕ → List Token → List ℕ → Type 0
AreTokensBefore at text [] rest = HasBlanks text rest
AreTokensBefore at text (t ∷ ts) rest =
    (here : List ℕ) × (later : List ℕ) × HasBlanks text here
    × IsTokenAt (at + (length text - length here)) here t later × AreTokensBefore t.span.stop later ts rest

-- the text is the tokens, each where its span says, with blanks around them
abbrev pub AreTokens : List ℕ → List Token → Type 0
AreTokens text ts = AreTokensBefore 0 text ts []

-- two tokens are the same: their kinds, their texts and their places
abbrev pub IsSame : Token → Token → Type 0
IsSame t u = (t.kind ≡ u.kind) × (t.text.now ≡ u.text.now) × (t.span.start ≡ u.span.start) × (t.span.stop ≡ u.span.stop)

-- two lists have the same tokens
abbrev pub AreSame : List Token → List Token → Type 0
AreSame [] [] = ⊤
AreSame [] (u ∷ us) = ⊥
AreSame (t ∷ ts) [] = ⊥
AreSame (t ∷ ts) (u ∷ us) = IsSame t u × AreSame ts us

-- how many bytes the first of these characters takes
abbrev pub first_width : List ℕ → ℕ
first_width [] = 0
first_width (c ∷ cs) = len_utf8 c

-- the failure tells this of the first character of the text, which begins at this place
abbrev pub IsToldAt : ℕ → List ℕ → List ℕ → ParseFailure → Type 0
IsToldAt at text told (failure.Syntax span problem) =
    (span.start ≡ at) × (span.stop ≡ at + first_width (chars text)) × (span.stop ≤ at + length text) × (problem.now ≡ told)
IsToldAt at text told failure.Memory = ⊥

-- what is told where no token begins
abbrev pub problem_of : List ℕ → List ℕ
problem_of text =
    if slice_index text 0 == 34 then codes "this text has no closing quote" else codes "no part of an expression begins here"

-- no token begins here, and the failure tells so
abbrev pub IsUnread : ℕ → List ℕ → ParseFailure → Type 0
IsUnread at text e = HasNoToken text × IsToldAt at text (problem_of text) e

-- behind tokens and blanks something is left with which no token begins, or memory ran out
abbrev pub IsStuckIn : List ℕ → ParseFailure → Type 0
IsStuckIn text (failure.Syntax span problem) =
    (ts : List Token) × (rest : List ℕ) × AreTokensBefore 0 text ts rest × (0 < length rest) × HasNoBlank rest
    × IsUnread (length text - length rest) rest (failure.Syntax span problem)
IsStuckIn text failure.Memory = ⊤
