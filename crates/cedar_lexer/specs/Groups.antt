-- Groups of tokens: they go up to the bracket that closes what they stand in, or up to a comma outside brackets.
use Rattle.std.specs.Prelude.{◌≡◌, ℕ, suc, ◌-◌, Bool, true, false, if◌then◌else◌, List, [], ◌∷◌, map, ⊤}
use Rattle.cedar_lexer.specs.declared.token.Token.{Token}
use Rattle.cedar_lexer.specs.declared.token.TokenKind.{TokenKind}
use Rattle.cedar_lexer.specs.declared.token.TokenKind.TheVariants as kinds

-- whether a token is a bracket that opens
abbrev pub opens : TokenKind → Bool
opens kinds.OpenRound = true
opens kinds.OpenSquare = true
opens kinds.OpenCurly = true
opens k = false

-- whether a token is a bracket that closes
abbrev pub closes : TokenKind → Bool
closes kinds.CloseRound = true
closes kinds.CloseSquare = true
closes kinds.CloseCurly = true
closes k = false

-- whether a token outside brackets ends a group: a bracket that closes, or a comma if that ends one
abbrev pub ends : Bool → TokenKind → Bool
ends comma kinds.CloseRound = true
ends comma kinds.CloseSquare = true
ends comma kinds.CloseCurly = true
ends comma kinds.Comma = comma
ends comma k = false

-- how many brackets are open behind a token
abbrev pub depth_behind : TokenKind → ℕ → ℕ
depth_behind k n = if opens k then suc n else (if closes k then n - 1 else n)

-- what the tokens are
abbrev pub kinds_of : List Token → List TokenKind
kinds_of = map (λ t. t.kind)

-- `Passes comma tokens rest`: the tokens are whole pairs of brackets and others between, of which none ends a group, and then the rest
pub data Passes : Bool → List TokenKind → List TokenKind → Type 0 where
  passed : {comma : Bool} {rest : List TokenKind} → Passes comma rest rest
  single : {comma : Bool} {k : TokenKind} {ks rest : List TokenKind} → opens k ≡ false → ends comma k ≡ false → Passes comma ks rest
      → Passes comma (k ∷ ks) rest
  pair : {comma : Bool} {o c : TokenKind} {ks ls rest : List TokenKind} → opens o ≡ true → Passes false ks (c ∷ ls) → closes c ≡ true
      → Passes comma ls rest → Passes comma (o ∷ ks) rest

-- nothing follows, or what ends a group
abbrev pub IsGroupEnd : Bool → List TokenKind → Type 0
IsGroupEnd comma [] = ⊤
IsGroupEnd comma (k ∷ ks) = ends comma k ≡ true

-- what is left where a group is taken: if the tokens pass to what ends a group, that
abbrev pub IsCutAt : Bool → List TokenKind → List TokenKind → Type 0
IsCutAt comma old new = (rest : List TokenKind) → Passes comma old rest → IsGroupEnd comma rest → new ≡ rest
