-- What a store of entities has, and what it means.
use Rattle.std.specs.Prelude.{Bool, true, false, List}
use Rattle.std.specs.Ordering.{on}
use Rattle.cedar_ancestors.specs.Stores.{IsRefusedStore}
use Rattle.cedar_terms.specs.Entities.{bare_entity_uid}
use Rattle.cedar_terms.specs.EntityOrder.{entity_uid_cmp}
use Rattle.cedar_terms.specs.declared.entity.EntityUID.{EntityUID}
use Rattle.semantics_values.specs.BareValue.{BareValue}
use Rattle.semantics_request.specs.Entities as meant
use Rattle.cedar_entities.specs.Errors.{store_error}
use Rattle.cedar_entities.specs.Listings.{Listing, listing_of, known_by}
use Rattle.cedar_entities.specs.Parts.{uid_of, parents_of}
use Rattle.cedar_entities.specs.declared.entities.Entities.{Entities}
use Rattle.cedar_entities.specs.declared.entities_error.EntitiesError.{EntitiesError}
use Rattle.cedar_entities.specs.declared.entity.Entity.{Entity}

-- what is known of an entity that is not there: of a part nothing
abbrev pub known_of_others : {X : Type 0} → Bool → meant.Dereference X
known_of_others true = meant.NotKnown
known_of_others false = meant.NoSuchEntity

module _ {V : Type 0} where
  -- the entities of a store, by type and identifier
  abbrev pub entities_of : Entities V → List (EntityUID × Entity V)
  entities_of s = s.store

  -- the same, where places do not count
  abbrev pub listing : Entities V → Listing V
  listing s = listing_of (entities_of s)

  -- whether it is a part of a store
  abbrev pub is_part : Entities V → Bool
  is_part s = s.is_part

  -- what a store means to evaluation, where `tree` says the tree of a value
  abbrev pub bare_entities : {X : Type 0} → (V → BareValue X) → Entities V → meant.Entities X
  bare_entities tree s = known_by tree (listing s) (known_of_others (is_part s))

  -- why there is no store: two entities are called the same and differ, one is its own ancestor, or
  -- a parent is not there; F is the equality of entities
  abbrev pub IsRefused :
      (Entity V → Entity V → Bool) → List (EntityUID × Entity V) → List (Entity V)
      → EntitiesError → Type 0
  IsRefused F m es e =
      IsRefusedStore (on bare_entity_uid entity_uid_cmp) F uid_of parents_of m es (store_error e)
