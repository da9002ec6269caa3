-- What a store of entries says, where the places of its keys do not count.
use Rattle.std.proofs.Common.{◌≡◌, ◌↔◌, Bool, IsTrue, List, Option, Some, None, option_map, Result, Ok, Err, IfOk, refl, sym, ap, ◌∙◌, subst}
use Rattle.std.specs.Cmp.{tied_itself}
use Rattle.std.specs.Ordering.{on}
use Rattle.std.specs.declared.cmp.Ordering.{Ordering}
use Rattle.std.specs.declared.cmp.Ordering.TheVariants.{Equal}
use Rattle.std.specs.declared.alloc.AllocError.{AllocError}
use Rattle.cedar_ancestors.specs.Images.{entry_image, ancestors_image, entries_image, parents_image}
use Rattle.cedar_ancestors.specs.Keyed.{entry_at, IsAncestorOf}
use Rattle.cedar_ancestors.specs.Stores.{EntriesStay, KnowsAllParents, IsRefusedStore}
use Rattle.cedar_ancestors.specs.declared.store.StoreError.{StoreError}
use Rattle.cedar_ancestors.specs.declared.store.StoreError.TheVariants.{Duplicate, Cycle, MissingParent, Memory}
use Rattle.cedar_terms.specs.Entities.{bare_entity_uid}
use Rattle.cedar_terms.specs.EntityOrder.{entity_uid_cmp, entity_uid_cmp_total}
use Rattle.cedar_terms.specs.declared.entity.EntityUID.{EntityUID}
use Rattle.cedar_entities.specs.Errors.{error_of}
use Rattle.cedar_entities.specs.Listings.{listing_of, entity_at, is_ancestor_in, HasAllParents, EntitiesStay}
use Rattle.cedar_entities.specs.Parts.{uid_of, parents_of, bare_parents}
use Rattle.cedar_entities.specs.Stores.{IsRefused}
use Rattle.cedar_entities.specs.declared.entities_error.EntitiesError.{EntitiesError}
use Rattle.cedar_entities.specs.declared.entity.Entity.{Entity}
use Rattle.cedar_entities.proofs.Parts.{same_truth, ancestors_are_reached}

abbrev pub Order : EntityUID → EntityUID → Ordering
Order = on bare_entity_uid entity_uid_cmp

-- copies of the same are alike
pub clones_alike : (u copy : EntityUID) → bare_entity_uid copy ≡ bare_entity_uid u
    → Order u copy ≡ Equal
clones_alike u copy h =
    ap (entity_uid_cmp (bare_entity_uid u)) h
    ∙ tied_itself entity_uid_cmp_total (bare_entity_uid u)

itself : {V : Type 0} (o : Option V) → option_map (λ v. v) o ≡ o
itself None = refl
itself (Some v) = refl

module _ {V : Type 0} (m : List (EntityUID × Entity V)) where
  -- a look-up
  pub found_at : (u : EntityUID) → entry_at Order m u ≡ entity_at (listing_of m) (bare_entity_uid u)
  found_at u =
      sym (entry_image entity_uid_cmp_total bare_entity_uid (λ v. v) parents_of bare_parents (λ v. refl) m u
      ∙ itself (entry_at Order m u))

  -- a question about ancestors
  descends : (u v : EntityUID) (b : Bool) → IsTrue b ↔ IsAncestorOf Order parents_of m u v
      → b ≡ is_ancestor_in (listing_of m) (bare_entity_uid u) (bare_entity_uid v)
  descends u v b is =
      let image = ancestors_image entity_uid_cmp_total bare_entity_uid (λ v. v) parents_of bare_parents (λ v. refl) m u v in
      let tested = ancestors_are_reached (listing_of m) (bare_entity_uid u) (bare_entity_uid v) in
      same_truth b (is_ancestor_in (listing_of m) (bare_entity_uid u) (bare_entity_uid v))
      (λ h. tested.1 (image.0 (is.0 h)))
      (λ h. is.1 (image.1 (tested.0 h)))

  pub if_descends : (u v : EntityUID) (r : Result Bool AllocError)
      → IfOk r (λ b. IsTrue b ↔ IsAncestorOf Order parents_of m u v)
      → IfOk r (λ b. b ≡ is_ancestor_in (listing_of m) (bare_entity_uid u) (bare_entity_uid v))
  if_descends u v (Ok b) h = descends u v b h
  if_descends u v (Err e) h = tt

  pub all_parents : KnowsAllParents Order parents_of m → HasAllParents (listing_of m)
  all_parents known =
      parents_image entity_uid_cmp_total bare_entity_uid (λ v. v) parents_of bare_parents (λ v. refl) m known

  pub stay : (n : List (EntityUID × Entity V)) → EntriesStay Order m n
      → EntitiesStay (listing_of m) (listing_of n)
  stay n stays =
      entries_image entity_uid_cmp_total bare_entity_uid (λ v. v) parents_of bare_parents (λ v. refl) m n stays

  -- a refusal
  pub refused : (F : Entity V → Entity V → Bool) (es : List (Entity V))
      (error : StoreError EntityUID) (e : EntitiesError) → e ≡ error_of error
      → IsRefusedStore Order F uid_of parents_of m es error → IsRefused F m es e
  refused F es (Duplicate k) e is h = subst (IsRefused F m es) (sym is) h
  refused F es (Cycle k) e is h = subst (IsRefused F m es) (sym is) h
  refused F es (MissingParent k) e is h = subst (IsRefused F m es) (sym is) h
  refused F es Memory e is h = subst (IsRefused F m es) (sym is) h
