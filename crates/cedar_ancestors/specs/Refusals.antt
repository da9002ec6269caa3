-- Why a table has no closure.
use Rattle.std.specs.Prelude.{ℕ, ◌<◌, List, length}
use Rattle.std.specs.Global.{Global}
use Rattle.std.specs.declared.vec.Vec.{Vec}
use Rattle.cedar_ancestors.specs.Tables.{IsAbove}
use Rattle.cedar_ancestors.specs.declared.closure.Refusal.{Refusal}
use Rattle.cedar_ancestors.specs.declared.closure.Refusal.TheVariants.{Cycle, TooMany, Memory}

-- where the refusal names an index, that is above itself
abbrev pub IsRefusalOf : List (Vec ℕ Global) → Refusal → Type 0
IsRefusalOf table (Cycle x) = (x < length table) × IsAbove table x x
IsRefusalOf table TooMany = Unit {0}
IsRefusalOf table Memory = Unit {0}
