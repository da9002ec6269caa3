-- Which names are declared, and what a list of possibilities resolves to (Cedar's file
-- `raw_name.rs`, after RFC 24).
use Rattle.std.specs.Prelude.{List, Bool, ◌||◌, Option, find}
use Rattle.std.specs.List.{list_any}
use Rattle.cedar_names.specs.declared.internal_name.InternalName.{InternalName}
use Rattle.cedar_names.specs.declared.all_defs.AllDefs.{AllDefs}
use Rattle.cedar_names.specs.declared.raw_name.ReferenceType.{ReferenceType}
use Rattle.cedar_names.specs.declared.raw_name.ReferenceType.TheVariants.{Common, Entity, CommonOrEntity}
use Rattle.cedar_names.specs.Names.{BareName}
use Rattle.cedar_names.specs.NameOrder.{name_eq}
use Rattle.cedar_names.specs.InternalNames.{bare_internal_name}

-- one of the names is this one, whatever its place
abbrev pub has_name : List InternalName → BareName → Bool
has_name names n = list_any (λ m. name_eq n (bare_internal_name m)) names

-- the name is declared as a common type
abbrev pub is_common : AllDefs → BareName → Bool
is_common d n = has_name d.common.keys n

-- the name is declared as an entity type
abbrev pub is_entity : AllDefs → BareName → Bool
is_entity d n = has_name d.entity.keys n

-- the name is declared as what the reference may be
abbrev pub is_declared : AllDefs → ReferenceType → BareName → Bool
is_declared d Common n = is_common d n
is_declared d Entity n = is_entity d n
is_declared d CommonOrEntity n = is_common d n || is_entity d n

-- the first possibility that is declared: an earlier one wins, also as an entity type over a later
-- common type
abbrev pub resolved : AllDefs → ReferenceType → List InternalName → Option InternalName
resolved d kind possibilities = find (λ n. is_declared d kind (bare_internal_name n)) possibilities
