-- The tokens of a stream, and which of them are taken.
use Rattle.std.specs.Prelude.{◌≡◌, ℕ, ◌-◌, List, [], ◌∷◌, length, slice_get}
use Rattle.std.specs.Option.{option_map_or}
use Rattle.cedar_lexer.specs.declared.token.TokenKind.{TokenKind}
use Rattle.cedar_lexer.specs.declared.token.TokenKind.TheVariants as kinds
use Rattle.cedar_lexer.specs.declared.token.Token.{Token}
use Rattle.cedar_lexer.specs.declared.token_stream.TokenStream.{TokenStream}

-- the tokens that are not taken yet
abbrev pub rest_of : TokenStream → List Token
rest_of t = t.rest.now

-- how many tokens are not taken yet
abbrev pub tokens_left : TokenStream → ℕ
tokens_left t = length (rest_of t)

-- what stands behind the last token
abbrev pub end_of : TokenStream → Token
end_of t = t.end

-- where the last of the tokens ends
abbrev pub last_stop : List Token → ℕ
last_stop ts = option_map_or (λ t. t.span.stop) (slice_get ts (length ts - 1)) 0

-- it is no token, but the place behind the last one
abbrev pub IsEndBehind : List Token → Token → Type 0
IsEndBehind ts end =
    (end.kind ≡ kinds.End) × (end.text.now ≡ []) × (end.span.start ≡ last_stop ts) × (end.span.stop ≡ last_stop ts)

-- the first of the tokens, or what stands behind them
abbrev pub first_or : Token → List Token → Token
first_or end [] = end
first_or end (t ∷ ts) = t

-- what is taken next, or the end
abbrev pub next_of : TokenStream → Token
next_of t = first_or (end_of t) (rest_of t)

-- the first token is of this kind
abbrev pub BeginsWith : TokenKind → List Token → Type 0
BeginsWith kind [] = ⊥
BeginsWith kind (t ∷ ts) = t.kind ≡ kind

-- the first two tokens are of these kinds
abbrev pub BeginsWithPair : TokenKind → TokenKind → List Token → Type 0
BeginsWithPair first second [] = ⊥
BeginsWithPair first second (t ∷ ts) = (t.kind ≡ first) × BeginsWith second ts

-- nothing was taken
abbrev pub IsUntouched : TokenStream → TokenStream → Type 0
IsUntouched old new = (rest_of new ≡ rest_of old) × (end_of new ≡ end_of old)

-- the first token was taken
abbrev pub IsTaken : TokenStream → Token → TokenStream → Type 0
IsTaken old t new = (rest_of old ≡ t ∷ rest_of new) × (end_of new ≡ end_of old)

-- the first two tokens were taken, of which the first is of this kind
abbrev pub IsPairTaken : TokenStream → TokenKind → Token → TokenStream → Type 0
IsPairTaken old kind t new =
    (first : Token) × (first.kind ≡ kind) × (rest_of old ≡ first ∷ t ∷ rest_of new) × (end_of new ≡ end_of old)
