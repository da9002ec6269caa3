-- The laws of what stores mean.
use Rattle.std.specs.Prelude.{◌≡◌, ◌≢◌, ◌↔◌, IsTrue}
use Rattle.cedar_terms.specs.Entities.{BareEntityUID}
use Rattle.semantics_values.specs.BareValue.{BareValue}
use Rattle.semantics_request.specs.Entities.{Dereference, NotKnown, Entities}
use Rattle.cedar_entities.specs.Listings.{Listing, IsAncestorIn, is_ancestor_in, HasAllParents, EntitiesStay, known_by}

-- what the first store knows of an entity, the second knows too
abbrev pub KnowsMore : {X : Type 0} → Entities X → Entities X → Type 0
KnowsMore s t = (u : BareEntityUID) → s u ≢ NotKnown → t u ≡ s u

-- the ancestors that evaluation is told of are those reached by one or more steps
abbrev pub AncestorsAreReached : Type 0 → Type 0
AncestorsAreReached V =
    (ls : Listing V) (u v : BareEntityUID) → IsTrue (is_ancestor_in ls u v) ↔ IsAncestorIn ls u v

-- what a part of a store knows of an entity stays where entities are added: the same attributes and
-- tags, and no ancestor more
abbrev pub PartsStay : Type 0 → Type 0 → Type 0
PartsStay V X =
    (tree : V → BareValue X) (ls ms : Listing V) (others : Dereference X) → HasAllParents ls
    → EntitiesStay ls ms → KnowsMore (known_by tree ls NotKnown) (known_by tree ms others)
