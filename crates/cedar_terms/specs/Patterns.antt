-- What a pattern of `like` matches, and its text (Cedar's file `pattern.rs`). A bare pattern is the
-- list of its elements.
use Rattle.std.specs.Prelude.{◌≡◌, ℕ, List, [], ◌∷◌, ◌++◌, Bool, true, false, ◌&&◌, ◌||◌, ◌==◌, if◌then◌else◌, codes}
use Rattle.std.specs.List.{flat_map}
use Rattle.cedar_terms.specs.declared.pattern.PatternElem.{PatternElem}
use Rattle.cedar_terms.specs.declared.pattern.PatternElem.TheVariants.{Char, Wildcard}
use Rattle.cedar_terms.specs.Escape.{escape_char}

-- the empty pattern matches the empty text alone, a character a text that begins with it, and a
-- wildcard any text with a split whose second part the rest matches
abbrev pub Matches : List PatternElem → List ℕ → Type 0
Matches [] t = t ≡ []
Matches (Char c ∷ q) t = (s : List ℕ) × (t ≡ c ∷ s) × Matches q s
Matches (Wildcard ∷ q) t = (a : List ℕ) × (b : List ℕ) × (t ≡ a ++ b) × Matches q b

-- some end of the text passes the test
abbrev pub some_end : (List ℕ → Bool) → List ℕ → Bool
some_end f [] = f []
some_end f (c ∷ s) = f (c ∷ s) || some_end f s

-- the same as a test
abbrev pub matches : List PatternElem → List ℕ → Bool
matches [] [] = true
matches [] (d ∷ s) = false
matches (Char c ∷ q) [] = false
matches (Char c ∷ q) (d ∷ s) = c == d && matches q s
matches (Wildcard ∷ q) t = some_end (matches q) t

-- which elements are wildcards
abbrev pub is_wildcard : PatternElem → Bool
is_wildcard (Char c) = false
is_wildcard Wildcard = true

-- a wildcard is `*`, the character `*` is `\*`, any other character is its escape
abbrev pub elem_text : PatternElem → List ℕ
elem_text (Char c) = if c == 42 then codes "\\*" else escape_char c
elem_text Wildcard = codes "*"

-- the text of a pattern, as characters
abbrev pub pattern_text : List PatternElem → List ℕ
pattern_text p = flat_map elem_text p
