-- A store of entities, and what it answers (Cedar's `Entities` and `Dereference`).
use Rattle.std.specs.Prelude.{Bool, false, ◌||◌, is_some, List, [], ◌∷◌, Option, Some, None, Ok, Err, ok_or, option_map}
use Rattle.std.specs.List.{list_any}
use Rattle.cedar_terms.specs.Entities.{BareEntityUID}
use Rattle.cedar_terms.specs.EntityOrder.{entity_uid_eq}
use Rattle.cedar_terms.specs.Literals.{StringLit, EntityLit}
use Rattle.cedar_builders.specs.BareExpr.{Text}
use Rattle.semantics_values.specs.BareValue.{BareValue, LitValue, SetValue, BareValues, no_values, value, BarePairs}
use Rattle.semantics_eval.specs.Outcomes.{WrongType, Missing, Store, Open, By, Outcome, settled, truth}
use Rattle.semantics_eval.specs.Attributes.{value_at, get_in, has_in}

-- an entity: its attributes, its tags, and whether another one is among its ancestors
pub record Entity (X : Type 0) : Type 0 where
  pub attributes : BarePairs X
  pub tags : BarePairs X
  pub is_descendant_of : BareEntityUID → Bool

-- what is known of an entity: nothing yet, that it is not in the store, or what it is
pub data Dereference (X : Type 0) : Type 0 where
  NotKnown : Dereference X
  NoSuchEntity : Dereference X
  Data : Entity X → Dereference X

-- a store: what is known of each entity
abbrev pub Entities : Type 0 → Type 0
Entities X = BareEntityUID → Dereference X

-- two parts of one store: what the first knows of an entity, else what the second does
abbrev pub first_known : {X : Type 0} → Dereference X → Dereference X → Dereference X
first_known NotKnown g = g
first_known f g = f

abbrev pub both_stores : {X : Type 0} → Entities X → Entities X → Entities X
both_stores s1 s2 u = first_known (s1 u) (s2 u)

module _ {X : Type 0} where
  -- the value at a key, of the attributes or of the tags: a fault if the entity is not there
  abbrev pub found_at : (Entity X → BarePairs X) → Text → Dereference X → Outcome X
  found_at f k NotKnown = Err Open
  found_at f k NoSuchEntity = Err (By Store)
  found_at f k (Data d) = settled (ok_or (value_at k (f d)) Missing)

  -- whether there is one: none if the entity is not there
  abbrev pub is_found_at : (Entity X → BarePairs X) → Text → Dereference X → Outcome X
  is_found_at f k NotKnown = Err Open
  is_found_at f k NoSuchEntity = Ok (truth false)
  is_found_at f k (Data d) = Ok (truth (is_some (value_at k (f d))))

  -- whether an entity is one of these, or a descendant of one: one that is not there is no
  -- descendant
  abbrev pub is_under : BareEntityUID → Dereference X → List BareEntityUID → Outcome X
  is_under u NotKnown vs = Err Open
  is_under u NoSuchEntity vs = Ok (truth (list_any (entity_uid_eq u) vs))
  is_under u (Data d) vs =
      Ok (truth (list_any (λ v. entity_uid_eq u v || d.is_descendant_of v) vs))

  -- the members of a set, if each is an entity
  abbrev pub member_entities : BareValues X → Option (List BareEntityUID)
  member_entities no_values = Some []
  member_entities (value (LitValue (EntityLit u)) ts) =
      option_map (λ us. u ∷ us) (member_entities ts)
  member_entities (value t ts) = None

  -- the entities that a value lists: an entity itself, a set of entities its members
  abbrev pub entities_in : BareValue X → Option (List BareEntityUID)
  entities_in (LitValue (EntityLit u)) = Some (u ∷ [])
  entities_in (SetValue ts) = member_entities ts
  entities_in t = None

  -- the same, if some are listed: else the value has the wrong type
  abbrev pub is_under_listed :
      BareEntityUID → Dereference X → Option (List BareEntityUID) → Outcome X
  is_under_listed u f None = Err (By WrongType)
  is_under_listed u f (Some vs) = is_under u f vs

module _ {X : Type 0} (s : Entities X) where
  -- `in`: of an entity, in an entity or in a set of entities
  abbrev pub under : BareValue X → BareValue X → Outcome X
  under (LitValue (EntityLit u)) t = is_under_listed u (s u) (entities_in t)
  under t w = Err (By WrongType)

  -- the value of an attribute: the store answers for an entity, a record for itself
  abbrev pub attribute : Text → BareValue X → Outcome X
  attribute k (LitValue (EntityLit u)) = found_at (λ d. d.attributes) k (s u)
  attribute k t = settled (get_in k t)

  -- whether there is an attribute
  abbrev pub has_attribute : Text → BareValue X → Outcome X
  has_attribute k (LitValue (EntityLit u)) = is_found_at (λ d. d.attributes) k (s u)
  has_attribute k t = settled (has_in k t)

  -- the value of a tag, of an entity by a text
  abbrev pub tag : BareValue X → BareValue X → Outcome X
  tag (LitValue (EntityLit u)) (LitValue (StringLit k)) = found_at (λ d. d.tags) k (s u)
  tag t w = Err (By WrongType)

  -- whether there is a tag
  abbrev pub has_tag : BareValue X → BareValue X → Outcome X
  has_tag (LitValue (EntityLit u)) (LitValue (StringLit k)) = is_found_at (λ d. d.tags) k (s u)
  has_tag t w = Err (By WrongType)
