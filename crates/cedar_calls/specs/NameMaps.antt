-- Maps by names, as functions of names without places (`BTreeMap` of Rust's standard library).
use Rattle.std.specs.Prelude.{Bool, List, Option}
use Rattle.std.specs.BTreeMap.{BTreeMap}
use Rattle.std.specs.List.{list_all}
use Rattle.std.specs.Map.{lookup}
use Rattle.cedar_names.specs.NameOrder.{name_eq}
use Rattle.cedar_names.specs.Names.{BareName}
use Rattle.cedar_names.specs.PlainNames.{bare_name}
use Rattle.cedar_names.specs.declared.name.Name.{Name}

-- the value of a map at a name, if there is one
abbrev pub value_at : {V : Type 0} → BareName → BTreeMap Name V → Option V
value_at name m = lookup (λ key. name_eq name (bare_name key)) m.entries

-- whether each value stands at its own name
abbrev pub stand_by_name : {V : Type 0} → (V → BareName) → List (Name × V) → Bool
stand_by_name name_of es = list_all (λ e. name_eq (bare_name e.0) (name_of e.1)) es
