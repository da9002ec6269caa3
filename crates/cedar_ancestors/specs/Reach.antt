-- What is above each index: kept in rows, or reached by steps of a table.
use Rattle.std.specs.Prelude.{◌↔◌, ℕ, ◌<◌, List, length}
use Rattle.std.specs.Global.{Global}
use Rattle.std.specs.declared.vec.Vec.{Vec}
use Rattle.cedar_ancestors.specs.Tables.{IsInRow, IsAbove}
use Rattle.cedar_ancestors.specs.declared.keyed.Cyclic.{Cyclic}
use Rattle.cedar_ancestors.specs.declared.keyed.Cyclic.TheVariants.{At, Memory}
use Rattle.cedar_ancestors.specs.declared.reach.Reach.{Reach}
use Rattle.cedar_ancestors.specs.declared.reach.Reach.TheVariants.{Closed, Walked}

-- the second index is above the first
abbrev pub leads : Reach → ℕ → ℕ → Type 0
leads (Closed rows) x y = IsInRow rows x y
leads (Walked table) x y = IsAbove table x y

-- just what is above in the table
abbrev pub IsReachOf : List (Vec ℕ Global) → Reach → Type 0
IsReachOf table r = (x y : ℕ) → leads r x y ↔ IsAbove table x y

-- the refusal names an index that is above itself
abbrev pub IsCyclicIn : List (Vec ℕ Global) → Cyclic ℕ → Type 0
IsCyclicIn table (At x) = (x < length table) × IsAbove table x x
IsCyclicIn table Memory = Unit {0}
