-- A walk that builds with values put for unknowns, by what it has.
use Rattle.std.specs.Global.{Global}
use Rattle.std.specs.HashMap.{HashMap}
use Rattle.std.specs.declared.hash.BuildHasherDefault.{BuildHasherDefault}
use Rattle.std.specs.declared.hash.FoldHasher.{FoldHasher}
use Rattle.std.specs.declared.rc.RcStr.{RcStr}
use Rattle.cedar_exprs.specs.declared.building.bound.BoundBuilding.{BoundBuilding}

-- the values that it puts for unknowns
abbrev pub values_of : {B V W : Type 0} → BoundBuilding B V W → HashMap (RcStr Global) V (BuildHasherDefault FoldHasher)
values_of w = w.values.now
