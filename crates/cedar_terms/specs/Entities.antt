-- Entities by type and identifier, without places (Cedar's file `entity.rs`).
use Rattle.std.specs.Prelude.{ℕ, List, ◌++◌, codes}
use Rattle.std.specs.Rc.{rc_str_bytes}
use Rattle.cedar_names.specs.Names.{BareName, name_text}
use Rattle.cedar_names.specs.PlainNames.{bare_name}
use Rattle.cedar_names.specs.declared.name.Name.{Name}
use Rattle.cedar_terms.specs.declared.entity.EntityType.{EntityType}
use Rattle.cedar_terms.specs.declared.entity.EntityUID.{EntityUID}
use Rattle.cedar_terms.specs.Escape.{quoted}

-- the name of an entity type, with its place
abbrev pub entity_type_name : EntityType → Name
entity_type_name t = t.name

-- an entity type without places is the bare name of its name
abbrev pub bare_entity_type : EntityType → BareName
bare_entity_type t = bare_name t.name

-- an entity without places: the bare name of its type, and the bytes of its identifier
pub record BareEntityUID : Type 0 where
  pub entity_type : BareName
  pub eid : List ℕ

-- an entity without places
abbrev pub bare_entity_uid : EntityUID → BareEntityUID
bare_entity_uid u = record { entity_type = bare_entity_type u.ty; eid = rc_str_bytes u.eid }

-- the type of an entity, with its place
abbrev pub entity_type_of : EntityUID → EntityType
entity_type_of u = u.ty

-- the text of the type, `::`, and the identifier in double quotes
abbrev pub entity_uid_text : BareEntityUID → List ℕ
entity_uid_text u = name_text u.entity_type ++ (codes "::" ++ quoted u.eid)
