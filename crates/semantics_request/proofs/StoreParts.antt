-- A store with further entities knows what the store knows.
use Rattle.std.proofs.Common.{◌≡◌, ◌≢◌, refl, Bool}
use Rattle.std.specs.declared.cmp.Ordering.{Ordering}
use Rattle.semantics_request.specs.Entities.{Dereference, NotKnown, NoSuchEntity, Data, Entities, first_known, both_stores}
use Rattle.semantics_request.specs.Requests.{Knowledge}
use Rattle.semantics_request.specs.Laws.{IsFuller, DecidedStays, StoreInParts}

module _ {X : Type 0} where
  first : (f g : Dereference X) → f ≢ NotKnown → first_known f g ≡ f
  first NotKnown g known = absurd (known refl)
  first NoSuchEntity g known = refl
  first (Data d) g known = refl

  pub fuller : (k : Knowledge X) (s : Entities X)
      → IsFuller k (record k { entities = both_stores k.entities s })
  fuller k s = record {
    request = λ v t h. h;
    entities = λ u known. first (k.entities u) (s u) known;
    bindings = λ n r h. h;
  }

pub store_in_parts : {X : Type 0} (R : X → X → Ordering) (E : X → X → Bool) → DecidedStays R E
    → StoreInParts R E
store_in_parts R E stays C T k s plain =
    stays C T k (record k { entities = both_stores k.entities s }) (fuller k s) plain
