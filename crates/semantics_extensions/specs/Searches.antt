-- Searches in texts.
use Rattle.std.specs.Prelude.{ℕ, List, [], ◌∷◌, ◌==◌, Option, Some, None, if◌then◌else◌}
use Rattle.std.specs.Option.{option_or}

-- the first answer to a question about the two parts of a text, of all ways to cut it in two
unfoldable pub first_cut : {A : Type 0} → (List ℕ → List ℕ → Option A) → List ℕ → Option A
first_cut f [] = f [] []
first_cut f (c ∷ cs) =
    option_or (f [] (c ∷ cs)) (first_cut (λ front back. f (c ∷ front) back) cs)

-- what follows a word that a text begins with
abbrev pub behind : List ℕ → List ℕ → Option (List ℕ)
behind [] text = Some text
behind (c ∷ word) [] = None
behind (c ∷ word) (d ∷ text) = if d == c then behind word text else None
