-- What may stand between double quotes, and what it stands for (Cedar's file `unescape.rs`).
use lib.Utf8.{scalar}
use Rattle.std.specs.Prelude.{Bool, true, ◌&&◌, ◌≡◌, ◌≢◌, ℕ, ◌+◌, ◌*◌, ◌<◌, ◌≤◌, ◌==◌, ◌||◌, List, [], ◌∷◌, ◌++◌, length, map, Option, Some, None, if◌then◌else◌}
use Rattle.std.specs.Char.{IsScalar, digit_value}
use Rattle.std.specs.Str.Parse.{AllDigits, digits_value}
use Rattle.cedar_terms.specs.declared.pattern.PatternElem.{PatternElem}
use Rattle.cedar_terms.specs.declared.pattern.PatternElem.TheVariants as elems
use Rattle.cedar_lexer.specs.declared.escapes.Piece.{Piece}
use Rattle.cedar_lexer.specs.declared.escapes.Piece.TheVariants.{Char, Star}

-- the character that a letter behind a backslash stands for: `\0`, `\t`, `\n` and `\r` are controls, and both
-- quotes and the backslash are themselves
abbrev pub letter_escape : ℕ → Option ℕ
letter_escape l =
    if l == 48 then Some 0 else
    (if l == 116 then Some 9 else
    (if l == 110 then Some 10 else
    (if l == 114 then Some 13 else
    (if l == 34 || l == 39 || l == 92 then Some l else None))))

-- how a character may be written: as it is, unless it is a carriage return or a backslash; by a backslash and a letter; by `\x` and two
-- hexadecimal digits, below 80; by `\u{`, one to six hexadecimal digits and `}`
pub data Writes : List ℕ → ℕ → Type 0 where
  itself : {c : ℕ} → c ≢ 13 → c ≢ 92 → Writes (c ∷ []) c
  by_letter : {l c : ℕ} → letter_escape l ≡ Some c → Writes (92 ∷ l ∷ []) c
  by_two_digits : {h l : ℕ} → digit_value h < 8 → digit_value l < 16 → Writes (92 ∷ 120 ∷ h ∷ l ∷ []) (digit_value h * 16 + digit_value l)
  by_code : (ds : List ℕ) → 0 < length ds → length ds ≤ 6 → AllDigits 16 ds → IsScalar (digits_value 16 ds) → Writes (92 ∷ 117 ∷ 123 ∷ (ds ++ (125 ∷ []))) (digits_value 16 ds)

-- how a piece may be written: a character, or the escape `\*`
abbrev pub IsPieceText : List ℕ → Piece → Type 0
IsPieceText w (Char c) = Writes w c
IsPieceText w Star = w ≡ 92 ∷ 42 ∷ []

-- the text is these pieces, one after the other
abbrev pub ArePieces : List ℕ → List Piece → Type 0
ArePieces t [] = t ≡ []
ArePieces t (p ∷ ps) = (w : List ℕ) × (rest : List ℕ) × (t ≡ w ++ rest) × IsPieceText w p × ArePieces rest ps

-- what stands between the quotes of a text: pieces that are its characters
abbrev pub IsInsideOfText : List ℕ → List ℕ → Type 0
IsInsideOfText inside cs = ArePieces inside (map Char cs)

-- what a piece is in a pattern: a star is a wildcard, and its escape a star
abbrev pub piece_elem : Piece → PatternElem
piece_elem (Char c) = if c == 42 then elems.Wildcard else elems.Char c
piece_elem Star = elems.Char 42

-- what stands between the quotes of a pattern: pieces that are its elements
abbrev pub IsInsideOfPattern : List ℕ → List PatternElem → Type 0
IsInsideOfPattern inside es = (ps : List Piece) × (map piece_elem ps ≡ es) × ArePieces inside ps

-- the characters of a pattern are those of a text
abbrev pub has_scalars : List PatternElem → Bool
has_scalars [] = true
has_scalars (elems.Char c ∷ es) = scalar c && has_scalars es
has_scalars (elems.Wildcard ∷ es) = has_scalars es
