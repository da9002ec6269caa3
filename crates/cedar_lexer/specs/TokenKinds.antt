-- The words and the signs of the grammar (Cedar's `grammar.lalrpop`).
use Rattle.std.specs.Prelude.{ℕ, List, [], ◌∷◌, Option, Some, None, codes, if◌then◌else◌}
use Rattle.std.specs.Str.{bytes_eq}
use Rattle.cedar_lexer.specs.declared.token.TokenKind.{TokenKind}
use Rattle.cedar_lexer.specs.declared.token.TokenKind.TheVariants as kinds

-- what a word is: an identifier, unless the grammar has a use for it
abbrev pub word_kind_of : List ℕ → TokenKind
word_kind_of w =
    if bytes_eq w (codes "true") then kinds.True else
    (if bytes_eq w (codes "false") then kinds.False else
    (if bytes_eq w (codes "if") then kinds.If else
    (if bytes_eq w (codes "then") then kinds.Then else
    (if bytes_eq w (codes "else") then kinds.Else else
    (if bytes_eq w (codes "in") then kinds.In else
    (if bytes_eq w (codes "is") then kinds.Is else
    (if bytes_eq w (codes "like") then kinds.Like else
    (if bytes_eq w (codes "has") then kinds.Has else
    (if bytes_eq w (codes "__cedar") then kinds.Reserved else kinds.Word)))))))))

-- the signs
abbrev pub signs : List (List ℕ × TokenKind)
signs =
    (codes "||", kinds.OrSign) ∷
    (codes "&&", kinds.AndSign) ∷
    (codes "==", kinds.Equal) ∷
    (codes "!=", kinds.NotEqual) ∷
    (codes "<=", kinds.LessEqual) ∷
    (codes ">=", kinds.GreaterEqual) ∷
    (codes "::", kinds.Colons) ∷
    (codes "<", kinds.Less) ∷
    (codes ">", kinds.Greater) ∷
    (codes "+", kinds.Plus) ∷
    (codes "-", kinds.Minus) ∷
    (codes "*", kinds.Times) ∷
    (codes "!", kinds.Not) ∷
    (codes ".", kinds.Dot) ∷
    (codes ",", kinds.Comma) ∷
    (codes ":", kinds.Colon) ∷
    (codes "(", kinds.OpenRound) ∷
    (codes ")", kinds.CloseRound) ∷
    (codes "[", kinds.OpenSquare) ∷
    (codes "]", kinds.CloseSquare) ∷
    (codes "{", kinds.OpenCurly) ∷
    (codes "}", kinds.CloseCurly) ∷
    (codes "@", kinds.At) ∷
    (codes ";", kinds.Semicolon) ∷ []

-- what a text is in a table
abbrev pub looked_up : List ℕ → List (List ℕ × TokenKind) → Option TokenKind
looked_up s [] = None
looked_up s (e ∷ es) = if bytes_eq s e.0 then Some e.1 else looked_up s es

-- what a sign is
abbrev pub sign_kind_of : List ℕ → Option TokenKind
sign_kind_of s = looked_up s signs
