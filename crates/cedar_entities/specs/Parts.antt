-- The parts of an entity; V is the type of the values of attributes and tags.
use Rattle.std.specs.Prelude.{nat_eq, List, map, Option}
use Rattle.std.specs.BTreeMap.{BTreeMap}
use Rattle.std.specs.Cmp.Lexicographic.{pointwise}
use Rattle.std.specs.Global.{Global}
use Rattle.std.specs.Map.{lookup}
use Rattle.std.specs.Rc.{rc_str_bytes}
use Rattle.std.specs.declared.rc.RcStr.{RcStr}
use Rattle.cedar_builders.specs.BareExpr.{Text}
use Rattle.cedar_builders.specs.Keys.{meant_pairs}
use Rattle.cedar_terms.specs.Entities.{BareEntityUID, bare_entity_uid}
use Rattle.cedar_terms.specs.declared.entity.EntityUID.{EntityUID}
use Rattle.semantics_values.specs.BareValue.{BareValue, BarePairs, pairs_of}
use Rattle.cedar_entities.specs.declared.entity.Entity.{Entity}

-- values by name
abbrev pub Named : Type 0 → Type 0
Named V = BTreeMap (RcStr Global) V

-- the value of a name, if it has one
abbrev pub value_named : {V : Type 0} → Text → Named V → Option V
value_named k m = lookup (λ name. pointwise nat_eq k (rc_str_bytes name)) m.entries

-- the names as texts, each with the tree of its value
abbrev pub named_pairs : {V X : Type 0} → (V → BareValue X) → Named V → BarePairs X
named_pairs tree m = pairs_of (meant_pairs tree m.entries)

module _ {V : Type 0} where
  abbrev pub uid_of : Entity V → EntityUID
  uid_of e = e.uid

  abbrev pub attributes_of : Entity V → Named V
  attributes_of e = e.attributes

  abbrev pub tags_of : Entity V → Named V
  tags_of e = e.tags

  abbrev pub parents_of : Entity V → List EntityUID
  parents_of e = e.parents.items

  -- the parents without places
  abbrev pub bare_parents : Entity V → List BareEntityUID
  bare_parents e = map bare_entity_uid (parents_of e)
