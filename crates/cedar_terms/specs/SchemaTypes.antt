-- Types of a schema without places (those of Cedar's file `extension.rs`).
use Rattle.std.specs.Prelude.{ℕ, List, [], ◌∷◌, ◌++◌, map, Option}
use Rattle.std.specs.Global.{Global}
use Rattle.std.specs.Rc.{rc_str_bytes}
use Rattle.std.specs.declared.rc.RcStr.{RcStr}
use Rattle.cedar_names.specs.Names.{BareName}
use Rattle.cedar_names.specs.Place.{Place}
use Rattle.cedar_names.specs.PlainNames.{bare_name, name_place}
use Rattle.cedar_names.specs.declared.name.Name.{Name}
use Rattle.cedar_terms.specs.declared.schema_type.SchemaType.{SchemaType, SchemaType-F, fold-SchemaType}
use Rattle.cedar_terms.specs.Entities.{bare_entity_type, entity_type_name}
use Rattle.cedar_terms.specs.Types.{BareType, BoolType, LongType, StringType, SetType, RecordType, EntityOfType, ExtensionType}

mutual
  -- a type of a schema without places
  pub data BareSchemaType : Type 0 where
    SchemaBool : BareSchemaType
    SchemaLong : BareSchemaType
    SchemaString : BareSchemaType
    SchemaSet : BareSchemaType → BareSchemaType
    SchemaEmptySet : BareSchemaType
    SchemaRecord : Attributes → BareSchemaType
    SchemaEntity : BareName → BareSchemaType
    SchemaExtension : BareName → BareSchemaType

  -- the attributes of a record by key, each with its type
  pub data Attributes : Type 0 where
    no_attributes : Attributes
    attribute : List ℕ → BareSchemaType → Attributes → Attributes

abbrev pub attributes_of : List (RcStr Global × BareSchemaType) → Attributes
attributes_of [] = no_attributes
attributes_of (e ∷ es) = attribute (rc_str_bytes e.0) e.1 (attributes_of es)

-- one level, where each type inside already is without places
abbrev pub bare_schema_step : SchemaType-F BareSchemaType → BareSchemaType
bare_schema_step SchemaType-F.Bool = SchemaBool
bare_schema_step SchemaType-F.Long = SchemaLong
bare_schema_step SchemaType-F.String = SchemaString
bare_schema_step (SchemaType-F.Set t) = SchemaSet t.value
bare_schema_step SchemaType-F.EmptySet = SchemaEmptySet
bare_schema_step (SchemaType-F.Record m) = SchemaRecord (attributes_of m.entries)
bare_schema_step (SchemaType-F.Entity ty) = SchemaEntity (bare_entity_type ty)
bare_schema_step (SchemaType-F.Extension name) = SchemaExtension (bare_name name)

-- a type of a schema without places
abbrev pub bare_schema_type : SchemaType → BareSchemaType
bare_schema_type = fold-SchemaType BareSchemaType bare_schema_step

-- the attributes of a record
abbrev pub bare_attributes : List (RcStr Global × SchemaType) → Attributes
bare_attributes es = attributes_of (map (λ e. (e.0, bare_schema_type e.1)) es)

-- the places of the attributes, each those of its type
abbrev pub joined_places : {K : Type 0} → List (K × List (Option Place)) → List (Option Place)
joined_places [] = []
joined_places (e ∷ es) = e.1 ++ joined_places es

-- one level, where each type inside already is the places of its names
abbrev pub place_step : SchemaType-F (List (Option Place)) → List (Option Place)
place_step (SchemaType-F.Set t) = t.value
place_step (SchemaType-F.Record m) = joined_places m.entries
place_step (SchemaType-F.Entity ty) = name_place (entity_type_name ty) ∷ []
place_step (SchemaType-F.Extension name) = name_place name ∷ []
place_step other = []

-- the places of the names inside, from the outermost inwards, attributes by key
abbrev pub schema_type_places : SchemaType → List (Option Place)
schema_type_places = fold-SchemaType (List (Option Place)) place_step

-- the places of the names in the attributes of a record
abbrev pub attribute_places : List (RcStr Global × SchemaType) → List (Option Place)
attribute_places es = joined_places (map (λ e. (e.0, schema_type_places e.1)) es)

-- the type of its values: every set is a set, every record a record
abbrev pub value_type : BareSchemaType → BareType
value_type SchemaBool = BoolType
value_type SchemaLong = LongType
value_type SchemaString = StringType
value_type (SchemaSet t) = SetType
value_type SchemaEmptySet = SetType
value_type (SchemaRecord a) = RecordType
value_type (SchemaEntity n) = EntityOfType n
value_type (SchemaExtension n) = ExtensionType n

-- the names of the extension types inside, from the outermost inwards, attributes by key; repeats
-- are kept
abbrev mutual
  pub extension_names : BareSchemaType → List BareName
  extension_names (SchemaSet t) = extension_names t
  extension_names (SchemaRecord a) = attribute_extension_names a
  extension_names (SchemaExtension n) = n ∷ []
  extension_names other = []

  pub attribute_extension_names : Attributes → List BareName
  attribute_extension_names no_attributes = []
  attribute_extension_names (attribute k t a) = extension_names t ++ attribute_extension_names a

-- names without their places
abbrev pub bare_names : List Name → List BareName
bare_names ns = map bare_name ns
