-- Tables of rows: at each index the indexes that it leads to.
use Rattle.std.specs.Prelude.{◌↔◌, ℕ, zero, suc, ◌<◌, List, [], ◌∷◌, length}
use Rattle.std.specs.List.{All, Contains}
use Rattle.std.specs.List.Sorted.{IsNonDecreasing}
use Rattle.std.specs.declared.vec.Vec.{Vec}
use Rattle.std.specs.Global.{Global}
use Rattle.cedar_ancestors.specs.Reaching.{Reaches}

-- the row at an index, empty past the end
abbrev pub row_at : List (Vec ℕ Global) → ℕ → List ℕ
row_at [] i = []
row_at (row ∷ rows) zero = row.items
row_at (row ∷ rows) (suc i) = row_at rows i

-- the row at x has y
abbrev pub IsInRow : List (Vec ℕ Global) → ℕ → ℕ → Type 0
IsInRow table x y = Contains (row_at table x) y

-- each row has indexes of the table alone
abbrev pub IsWithin : List (Vec ℕ Global) → Type 0
IsWithin table = All (λ row. All (λ y. y < length table) row.items) table

-- y is above x: reached by one or more steps, each to what the row has
abbrev pub IsAbove : List (Vec ℕ Global) → ℕ → ℕ → Type 0
IsAbove table x y = Reaches (IsInRow table) x y

-- the list has what is above x, and nothing else
abbrev pub HasAllAbove : List (Vec ℕ Global) → ℕ → List ℕ → Type 0
HasAllAbove table x ys = (y : ℕ) → Contains ys y ↔ IsAbove table x y

-- nothing is above itself
abbrev pub IsAcyclic : List (Vec ℕ Global) → Type 0
IsAcyclic table = (x : ℕ) → IsAbove table x x → ⊥

-- each row of the second table has just what is above in the first
abbrev pub IsClosureOf : List (Vec ℕ Global) → List (Vec ℕ Global) → Type 0
IsClosureOf table rows = (x y : ℕ) → IsInRow rows x y ↔ IsAbove table x y

-- each row ascends
abbrev pub AllAscend : List (Vec ℕ Global) → Type 0
AllAscend rows = All (λ row. IsNonDecreasing row.items) rows
