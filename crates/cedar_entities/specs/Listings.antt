-- Entities by type and identifier, and what they mean to evaluation.
use Rattle.std.specs.Prelude.{Bool, List, map, Option, None, Some}
use Rattle.cedar_ancestors.specs.Keyed.{entry_at, IsAncestorOf}
use Rattle.cedar_ancestors.specs.Paths.{is_ancestor}
use Rattle.cedar_ancestors.specs.Stores.{EntriesStay, KnowsAllParents}
use Rattle.cedar_terms.specs.Entities.{BareEntityUID, bare_entity_uid}
use Rattle.cedar_terms.specs.EntityOrder.{entity_uid_cmp}
use Rattle.cedar_terms.specs.declared.entity.EntityUID.{EntityUID}
use Rattle.semantics_values.specs.BareValue.{BareValue}
use Rattle.semantics_request.specs.Entities as meant
use Rattle.cedar_entities.specs.Parts.{attributes_of, tags_of, named_pairs, bare_parents}
use Rattle.cedar_entities.specs.declared.entity.Entity.{Entity}

-- entities by type and identifier
abbrev pub Listing : Type 0 → Type 0
Listing V = List (BareEntityUID × Entity V)

-- those of a map, where the places of its keys do not count
abbrev pub listing_of : {V : Type 0} → List (EntityUID × Entity V) → Listing V
listing_of = map (λ p. (bare_entity_uid p.0, p.1))

module _ {V : Type 0} where
  -- the entity of a type and an identifier, if there is one
  abbrev pub entity_at : Listing V → BareEntityUID → Option (Entity V)
  entity_at = entry_at entity_uid_cmp

  -- an entity is reached from another by one or more steps from child to parent
  abbrev pub IsAncestorIn : Listing V → BareEntityUID → BareEntityUID → Type 0
  IsAncestorIn = IsAncestorOf entity_uid_cmp bare_parents

  -- the same as a test
  abbrev pub is_ancestor_in : Listing V → BareEntityUID → BareEntityUID → Bool
  is_ancestor_in = is_ancestor entity_uid_cmp bare_parents

  -- each parent is an entity of the listing
  abbrev pub HasAllParents : Listing V → Type 0
  HasAllParents = KnowsAllParents entity_uid_cmp bare_parents

  -- each entity of the first is in the second, as it was
  abbrev pub EntitiesStay : Listing V → Listing V → Type 0
  EntitiesStay = EntriesStay entity_uid_cmp

-- `tree` says the tree of a value
module _ {V X : Type 0} (tree : V → BareValue X) where
  -- what is known of an entity, by what is listed: `others` is known of one that is not
  abbrev pub known_as :
      Listing V → meant.Dereference X → BareEntityUID → Option (Entity V) → meant.Dereference X
  known_as ls others u None = others
  known_as ls others u (Some e) = meant.Data (record {
    attributes = named_pairs tree (attributes_of e);
    tags = named_pairs tree (tags_of e);
    is_descendant_of = is_ancestor_in ls u;
  })

  -- what is known of each
  abbrev pub known_by : Listing V → meant.Dereference X → meant.Entities X
  known_by ls others u = known_as ls others u (entity_at ls u)
