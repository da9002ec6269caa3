-- Texts of a fixed shape, and the numbers in them.
use Rattle.std.specs.Prelude.{◌≡◌, ℕ, ◌+◌, ◌≤◌, Bool, true, false, ◌&&◌, ◌==◌, List, [], ◌∷◌, length, take, drop, if◌then◌else◌}
use Rattle.std.specs.Char.{is_ascii_digit}
use Rattle.std.specs.List.{list_all}
use Rattle.cedar_extensions.specs.Numbers.{number_of}

-- in a shape the digit 0 stands for any digit, and each other byte for itself
abbrev pub is_like : ℕ → ℕ → Bool
is_like p c = if p == 48 then is_ascii_digit c else c == p

-- the text has the shape
unfoldable pub has_shape : List ℕ → List ℕ → Bool
has_shape [] [] = true
has_shape [] (c ∷ cs) = false
has_shape (p ∷ ps) [] = false
has_shape (p ∷ ps) (c ∷ cs) = is_like p c && has_shape ps cs

-- digits stand here, so many
abbrev pub HasDigits : List ℕ → ℕ → ℕ → Type 0
HasDigits text start count = (start + count ≤ length text) × (list_all is_ascii_digit (take count (drop start text)) ≡ true)

-- the number that they write
unfoldable pub field : List ℕ → ℕ → ℕ → ℕ
field text start count = number_of (take count (drop start text))
