-- Types without places, and their texts (Cedar's file `types.rs`).
use Rattle.std.specs.Prelude.{ℕ, Bool, true, false, List, ◌++◌, Option, None, codes}
use Rattle.cedar_names.specs.Names.{BareName, name_text}
use Rattle.cedar_names.specs.Place.{Place}
use Rattle.cedar_names.specs.PlainNames.{bare_name, name_place}
use Rattle.cedar_terms.specs.declared.types.«Type».{«Type»}
use Rattle.cedar_terms.specs.declared.types.«Type».TheVariants as Variant
use Rattle.cedar_terms.specs.Entities.{BareEntityUID, entity_type_name, bare_entity_type}
use Rattle.cedar_terms.specs.Literals.{BareLiteral, BoolLit, LongLit, StringLit, EntityLit}

-- a type without places
pub data BareType : Type 0 where
  BoolType : BareType
  LongType : BareType
  StringType : BareType
  SetType : BareType
  RecordType : BareType
  EntityOfType : BareName → BareType
  ExtensionType : BareName → BareType

-- a type without places
abbrev pub bare_type : «Type» → BareType
bare_type Variant.Bool = BoolType
bare_type Variant.Long = LongType
bare_type Variant.String = StringType
bare_type Variant.Set = SetType
bare_type Variant.Record = RecordType
bare_type (Variant.Entity ty) = EntityOfType (bare_entity_type ty)
bare_type (Variant.Extension name) = ExtensionType (bare_name name)

-- the place of the name within, if there is one
abbrev pub type_place : «Type» → Option Place
type_place (Variant.Entity ty) = name_place (entity_type_name ty)
type_place (Variant.Extension name) = name_place name
type_place other = None

-- the text of a type
abbrev pub type_text : BareType → List ℕ
type_text BoolType = codes "bool"
type_text LongType = codes "long"
type_text StringType = codes "string"
type_text SetType = codes "set"
type_text RecordType = codes "record"
type_text (EntityOfType n) = codes "(entity of type `" ++ (name_text n ++ codes "`)")
type_text (ExtensionType n) = name_text n

-- whether a type has no name of its own
abbrev pub is_plain_type : BareType → Bool
is_plain_type (EntityOfType n) = false
is_plain_type (ExtensionType n) = false
is_plain_type other = true

-- the type of an entity, and of a literal
abbrev pub entity_uid_type : BareEntityUID → BareType
entity_uid_type u = EntityOfType u.entity_type

abbrev pub literal_type : BareLiteral → BareType
literal_type (BoolLit b) = BoolType
literal_type (LongLit n) = LongType
literal_type (StringLit s) = StringType
literal_type (EntityLit u) = entity_uid_type u
