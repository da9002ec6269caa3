-- How far pieces are read.
use Rattle.std.specs.Prelude.{◌≡◌, ◌↔◌, ℕ, List, ◌++◌, map, Option, Some}
use Rattle.std.specs.Str.{encode_utf8_all}
use Rattle.cedar_terms.specs.declared.pattern.PatternElem.{PatternElem}
use Rattle.cedar_lexer.specs.Escapes.{ArePieces, IsInsideOfPattern, IsInsideOfText, piece_elem}
use Rattle.cedar_lexer.specs.declared.escapes.Piece.{Piece}
use Rattle.cedar_lexer.specs.declared.escapes.Piece.TheVariants.{Char}

-- the pieces of the text are those that are read, and then those of the rest
abbrev pub IsReadUpTo : List ℕ → List Piece → List ℕ → Type 0
IsReadUpTo text done rest = (ps : List Piece) → ArePieces text ps ↔ ((qs : List Piece) × (ps ≡ done ++ qs) × ArePieces rest qs)

-- the bytes are those of the text so far, and the rest is left
abbrev pub IsTextSoFar : List ℕ → List ℕ → List ℕ → Type 0
IsTextSoFar inside bytes rest = (done : List ℕ) × (bytes ≡ encode_utf8_all done) × IsReadUpTo inside (map Char done) rest

-- the elements are those of the pattern so far, and the rest is left
abbrev pub IsPatternSoFar : List ℕ → List PatternElem → List ℕ → Type 0
IsPatternSoFar inside es rest = (done : List Piece) × (es ≡ map piece_elem done) × IsReadUpTo inside done rest

-- what is answered for a text between quotes: the text whose inside it is, if there is one
abbrev pub IsAnswerOfText : List ℕ → Option (List ℕ) → Type 0
IsAnswerOfText inside answer = (cs : List ℕ) → IsInsideOfText inside cs ↔ (answer ≡ Some (encode_utf8_all cs))

-- what is answered for a pattern between quotes: the pattern whose inside it is, if there is one
abbrev pub IsAnswerOfPattern : List ℕ → Option (List PatternElem) → Type 0
IsAnswerOfPattern inside answer = (es : List PatternElem) → IsInsideOfPattern inside es ↔ (answer ≡ Some es)
