-- How the script spells patterns.
use Rattle.std.specs.Prelude.{◌≢◌, ℕ, ◌==◌, ◌||◌, List, [], ◌∷◌, ◌++◌, if◌then◌else◌, codes}
use Rattle.std.specs.List.{flat_map}
use Rattle.cedar_terms.specs.declared.pattern.PatternElem.{PatternElem}
use Rattle.cedar_terms.specs.declared.pattern.PatternElem.TheVariants.{Char, Wildcard}

-- a wildcard is `*`, the characters `*` and `\` stand behind a backslash, any other character is
-- itself
abbrev pub elem_spelling : PatternElem → List ℕ
elem_spelling Wildcard = codes "*"
elem_spelling (Char c) = if c == 42 || c == 92 then 92 ∷ c ∷ [] else c ∷ []

-- how the script spells a pattern
abbrev pub spelling : List PatternElem → List ℕ
spelling = flat_map elem_spelling

-- the characters begin with the spelling of no element
abbrev pub BeginsWithNone : List ℕ → Type 0
BeginsWithNone cs = (e : PatternElem) (rest : List ℕ) → cs ≢ elem_spelling e ++ rest

-- the characters spell no pattern
abbrev pub SpellsNone : List ℕ → Type 0
SpellsNone cs = (p : List PatternElem) → cs ≢ spelling p
