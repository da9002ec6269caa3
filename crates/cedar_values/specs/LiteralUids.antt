-- The entities inside a value (`all_literal_uids` of Cedar's `value.rs`).
use Rattle.std.specs.Prelude.{◌≡◌, Bool, ◌||◌, List, [], ◌∷◌, ◌++◌}
use Rattle.std.specs.HashSet.{HashSet, contains}
use Rattle.std.specs.List.{list_any}
use Rattle.std.specs.Ordering.{on}
use Rattle.std.specs.declared.hash.BuildHasherDefault.{BuildHasherDefault}
use Rattle.std.specs.declared.hash.FoldHasher.{FoldHasher}
use Rattle.cedar_terms.specs.Entities.{BareEntityUID, bare_entity_uid}
use Rattle.cedar_terms.specs.EntityOrder.{entity_uid_eq}
use Rattle.cedar_terms.specs.Literals.{BareLiteral, EntityLit}
use Rattle.cedar_terms.specs.declared.entity.EntityUID.{EntityUID}
use Rattle.semantics_values.specs.BareValue.{BareValue, LitValue, SetValue, RecordValue, ExtensionValue, BareValues, no_values, value, BarePairs, no_pairs, pair}

-- the entity, if a literal is one
abbrev pub literal_uid : BareLiteral → List BareEntityUID
literal_uid (EntityLit u) = u ∷ []
literal_uid l = []

abbrev mutual
  -- the entities that are literals of a value, at any depth; none is inside of an extension value
  pub literal_uids : {X : Type 0} → BareValue X → List BareEntityUID
  literal_uids (LitValue l) = literal_uid l
  literal_uids (SetValue ts) = members_uids ts
  literal_uids (RecordValue ps) = pairs_uids ps
  literal_uids (ExtensionValue x g) = []

  -- those of the members of a set
  pub members_uids : {X : Type 0} → BareValues X → List BareEntityUID
  members_uids no_values = []
  members_uids (value t ts) = literal_uids t ++ members_uids ts

  -- those of the values of a record
  pub pairs_uids : {X : Type 0} → BarePairs X → List BareEntityUID
  pairs_uids no_pairs = []
  pairs_uids (pair k t ps) = literal_uids t ++ pairs_uids ps

-- a set of entities, as `HashSet` of Rust's standard library is by default
abbrev pub UidSet : Type 0
UidSet = HashSet EntityUID (BuildHasherDefault FoldHasher)

-- whether an entity is one of these, places apart
abbrev pub is_uid_of : List BareEntityUID → EntityUID → Bool
is_uid_of us u = list_any (entity_uid_eq (bare_entity_uid u)) us

-- whether the set has an entity
abbrev pub has_uid : UidSet → EntityUID → Bool
has_uid s u = contains (on bare_entity_uid entity_uid_eq) s u

-- the set has just these
abbrev pub HasJust : List BareEntityUID → UidSet → Type 0
HasJust us s = (u : EntityUID) → has_uid s u ≡ is_uid_of us u

-- the new set has what the old one had, and these
abbrev pub Gains : List BareEntityUID → UidSet → UidSet → Type 0
Gains us old new = (u : EntityUID) → has_uid new u ≡ (has_uid old u || is_uid_of us u)
