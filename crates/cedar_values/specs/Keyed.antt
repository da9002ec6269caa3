-- Maps that are made in the order of their keys (`BTreeMap` of Rust's standard library).
use Rattle.std.specs.Prelude.{◌≡◌, List}
use Rattle.std.specs.Global.{Global}
use Rattle.std.specs.List.{AllByRecursion}
use Rattle.std.specs.declared.rc.RcStr.{RcStr}
use Rattle.std.specs.declared.cmp.Ordering.TheVariants.{Greater}
use Rattle.cedar_values.specs.Records.{key_cmp}

-- the key is above those of all pairs
abbrev pub IsAbove : {V : Type 0} → RcStr Global → List (RcStr Global × V) → Type 0
IsAbove k es = AllByRecursion (λ e. key_cmp k e.0 ≡ Greater) es
