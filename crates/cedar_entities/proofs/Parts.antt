-- What a part of a store knows stays where entities are added.
use Rattle.std.proofs.Common.{◌≡◌, ◌≢◌, Bool, true, false, IsTrue, Option, Some, None, refl, sym, ap, ◌∙◌}
use Rattle.cedar_ancestors.specs.PathsFound.{ancestor_tested}
use Rattle.cedar_ancestors.specs.Stays.{ancestors_stay}
use Rattle.cedar_terms.specs.Entities.{BareEntityUID}
use Rattle.cedar_terms.specs.EntityOrder.{entity_uid_cmp, entity_uid_cmp_total}
use Rattle.semantics_values.specs.BareValue.{BareValue}
use Rattle.semantics_request.specs.Entities.{Dereference, NotKnown, Data}
use Rattle.cedar_entities.specs.Laws.{AncestorsAreReached, PartsStay}
use Rattle.cedar_entities.specs.Listings.{Listing, entity_at, is_ancestor_in, HasAllParents, EntitiesStay, known_as}
use Rattle.cedar_entities.specs.Parts.{attributes_of, tags_of, named_pairs, bare_parents}
use Rattle.cedar_entities.specs.declared.entity.Entity.{Entity}

-- two Booleans that hold alike
pub same_truth : (a b : Bool) → (IsTrue a → IsTrue b) → (IsTrue b → IsTrue a) → a ≡ b
same_truth true b f g = sym (f refl)
same_truth false true f g = g refl
same_truth false false f g = refl

-- the test of an ancestor is right
pub ancestors_are_reached : {V : Type 0} → AncestorsAreReached V
ancestors_are_reached ls u v = ancestor_tested entity_uid_cmp_total bare_parents ls u v

module _ {V : Type 0} (ls ms : Listing V) (known : HasAllParents ls) (stay : EntitiesStay ls ms)
    (u : BareEntityUID) where
  same_ancestors : (e : Entity V) → entity_at ls u ≡ Some e → (v : BareEntityUID)
      → is_ancestor_in ms u v ≡ is_ancestor_in ls u v
  same_ancestors e at v =
      let same = ancestors_stay entity_uid_cmp bare_parents ls ms known stay u v (e, at) in
      let in_ls = ancestors_are_reached ls u v in
      let in_ms = ancestors_are_reached ms u v in
      same_truth (is_ancestor_in ms u v) (is_ancestor_in ls u v)
      (λ h. in_ls.1 (same.1 (in_ms.0 h)))
      (λ h. in_ms.1 (same.0 (in_ls.0 h)))

  module _ {X : Type 0} (tree : V → BareValue X) (others : Dereference X) where
    kept : (e : Option (Entity V)) → entity_at ls u ≡ e
        → known_as tree ls NotKnown u e ≢ NotKnown
        → known_as tree ms others u (entity_at ms u) ≡ known_as tree ls NotKnown u e
    kept None at is_known = absurd (is_known refl)
    kept (Some e) at is_known =
        ap (known_as tree ms others u) (stay u e at)
        ∙ λ i. Data (record {
          attributes = named_pairs tree (attributes_of e);
          tags = named_pairs tree (tags_of e);
          is_descendant_of = λ v. same_ancestors e at v i;
        })

pub parts_stay : {V X : Type 0} → PartsStay V X
parts_stay tree ls ms others known stay u is_known =
    kept ls ms known stay u tree others (entity_at ls u) refl is_known
