-- What a name without the component `__cedar` says.
use Rattle.std.specs.Prelude.{Option}
use Rattle.cedar_names.specs.declared.internal_name.InternalName.{InternalName}
use Rattle.cedar_names.specs.declared.name.Name.{Name}
use Rattle.cedar_names.specs.Place.{Place}
use Rattle.cedar_names.specs.Names.{BareName}
use Rattle.cedar_names.specs.InternalNames.{bare_internal_name, internal_name_place}

-- the name, seen as one that may be reserved
abbrev pub internal : Name → InternalName
internal n = n.name

-- a name without its place
abbrev pub bare_name : Name → BareName
bare_name n = bare_internal_name n.name

-- its place, if it has one
abbrev pub name_place : Name → Option Place
name_place n = internal_name_place n.name
