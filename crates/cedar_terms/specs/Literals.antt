-- Literals without places, and their texts (Cedar's file `literal.rs`).
use Rattle.std.specs.Prelude.{ℕ, ℤ, Bool, true, false, List, Option, None, codes, if◌then◌else◌}
use Rattle.std.specs.Fmt.{signed_decimal}
use Rattle.std.specs.Rc.{rc_str_bytes}
use Rattle.cedar_names.specs.Place.{Place}
use Rattle.cedar_names.specs.PlainNames.{name_place}
use Rattle.cedar_terms.specs.declared.literal.Literal.{Literal}
use Rattle.cedar_terms.specs.declared.literal.Literal.TheVariants as Variant
use Rattle.cedar_terms.specs.Entities.{BareEntityUID, bare_entity_uid, entity_type_of, entity_uid_text, entity_type_name}
use Rattle.cedar_terms.specs.Escape.{quoted}

-- a literal without places: a truth value, an integer, the bytes of a text or an entity
pub data BareLiteral : Type 0 where
  BoolLit : Bool → BareLiteral
  LongLit : ℤ → BareLiteral
  StringLit : List ℕ → BareLiteral
  EntityLit : BareEntityUID → BareLiteral

-- a literal without places
abbrev pub bare_literal : Literal → BareLiteral
bare_literal (Variant.Bool b) = BoolLit b
bare_literal (Variant.Long n) = LongLit n
bare_literal (Variant.String s) = StringLit (rc_str_bytes s)
bare_literal (Variant.EntityUID u) = EntityLit (bare_entity_uid u.value)

-- `true` or `false`, decimal, the text in double quotes, the entity's text
abbrev pub literal_text : BareLiteral → List ℕ
literal_text (BoolLit b) = if b then codes "true" else codes "false"
literal_text (LongLit n) = signed_decimal n
literal_text (StringLit s) = quoted s
literal_text (EntityLit u) = entity_uid_text u

-- whether a literal is an entity
abbrev pub is_entity_literal : BareLiteral → Bool
is_entity_literal (EntityLit u) = true
is_entity_literal x = false

-- the place of the name of its type, if the literal is an entity that has one
abbrev pub literal_place : Literal → Option Place
literal_place (Variant.EntityUID u) = name_place (entity_type_name (entity_type_of u.value))
literal_place other = None
