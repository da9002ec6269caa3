-- What stands between tokens: white space and comments.
use Rattle.std.specs.Prelude.{◌≡◌, ◌⊎◌, ℕ, Bool, true, List, [], ◌∷◌, ◌++◌, codes}
use Rattle.std.specs.Char.{char_set_contains, encode_utf8, is_whitespace}
use Rattle.std.specs.Str.{NoCharPasses}

-- the text begins with two slashes
abbrev pub BeginsComment : List ℕ → Type 0
BeginsComment text = (more : List ℕ) × (text ≡ 47 ∷ 47 ∷ more)

-- what ends a line of the grammar: a line feed or a carriage return
abbrev pub ends_line : ℕ → Bool
ends_line = char_set_contains (codes "\n\r")

-- no character of the text ends a line
abbrev pub IsInLine : List ℕ → Type 0
IsInLine = NoCharPasses ends_line

-- the text is white space and comments, and then the rest; a comment ends with its line, or with the text
pub data HasBlanks : List ℕ → List ℕ → Type 0 where
  nothing : (text : List ℕ) → HasBlanks text text
  space : (c : ℕ) (text rest : List ℕ) → is_whitespace c ≡ true → HasBlanks text rest → HasBlanks (encode_utf8 c ++ text) rest
  comment : (line : List ℕ) (c : ℕ) (text rest : List ℕ) → BeginsComment line → IsInLine line → ends_line c ≡ true → HasBlanks text rest → HasBlanks (line ++ (c ∷ text)) rest
  last_comment : (line : List ℕ) → BeginsComment line → IsInLine line → HasBlanks line []

-- the later text is what stands behind the first line of the text
abbrev pub IsBehindLine : List ℕ → List ℕ → Type 0
IsBehindLine text later = (line : List ℕ) × IsInLine line × (((c : ℕ) × (ends_line c ≡ true) × (text ≡ line ++ (c ∷ later))) ⊎ ((text ≡ line) × (later ≡ [])))

-- the text begins with no white space
abbrev pub HasNoSpace : List ℕ → Type 0
HasNoSpace text = (c : ℕ) (rest : List ℕ) → is_whitespace c ≡ true → text ≡ encode_utf8 c ++ rest → ⊥

-- the text begins with no blank
abbrev pub HasNoBlank : List ℕ → Type 0
HasNoBlank text = (rest : List ℕ) → HasBlanks text rest → rest ≡ text
