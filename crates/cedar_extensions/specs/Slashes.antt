-- What stands before and behind a slash.
use Rattle.std.specs.Prelude.{◌≡◌, ℕ, ◌≤◌, decimal, Bool, true, not, ◌==◌, List, ◌∷◌, ◌++◌, Option, Some, None}
use Rattle.std.specs.List.{list_all}

-- a byte that is no slash
abbrev pub is_no_slash : ℕ → Bool
is_no_slash c = not (c == 47)

-- the text up to its first slash, and what follows it if there is one
abbrev pub IsSplit : List ℕ → List ℕ → Option (List ℕ) → Type 0
IsSplit text front None = (text ≡ front) × (list_all is_no_slash front ≡ true)
IsSplit text front (Some back) = (text ≡ front ++ 47 ∷ back) × (list_all is_no_slash front ≡ true)

-- the number of bits behind the slash, in decimal with no leading zeros; without one it is all
abbrev pub IsPrefixText : Option (List ℕ) → ℕ → ℕ → Type 0
IsPrefixText None width n = n ≡ width
IsPrefixText (Some digits) width n = (digits ≡ decimal n) × (n ≤ width)
