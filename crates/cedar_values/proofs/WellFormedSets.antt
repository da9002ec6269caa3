-- Well formed sets, as the lists of their members.
use Rattle.std.proofs.Common.{◌≡◌, Bool, true, false, ◌&&◌, List, [], ◌∷◌, map, Option, refl, sym, ap, subst, ◌∙◌}
use Rattle.std.specs.Cmp.{IsTotalOrder}
use Rattle.std.specs.List.{list_all}
use Rattle.std.specs.List.Sorted.{IsStrictlySortedBy}
use Rattle.std.specs.declared.cmp.Ordering.{Ordering}
use Rattle.std.proofs.lemmas.Bool.{and_parts}
use Rattle.cedar_terms.specs.Literals.{BareLiteral}
use Rattle.cedar_sorted_slices.specs.Classes.{IsClassesOf, ascends}
use Rattle.cedar_sorted_slices.specs.Images.{ascending_images}
use Rattle.cedar_sorted_slices.specs.Ascending.{sorted_of_ascends, ascends_of_sorted}
use Rattle.semantics_values.specs.BareValue.{BareValue, BareValues, SetValue, values_of, list_of_values}
use Rattle.semantics_values.specs.ValueOrder.{value_cmp}
use Rattle.semantics_values.specs.WellFormed.{is_well_formed, are_well_formed}
use Rattle.cedar_values.specs.BareValues.{bare_value, bare_set, kind_step, set_step, value_step}
use Rattle.cedar_values.specs.HashForms.{is_hash_form}
use Rattle.cedar_values.specs.Sets.{by_tree, has_hash_form, hashed_literals, members}
use Rattle.cedar_values.specs.WellFormed.{is_hashed, well_formed, set_well_formed}
use Rattle.cedar_values.specs.declared.set.Set.{Set, fold_out-Set}
use Rattle.cedar_values.specs.declared.value.Value.{Value}
use Rattle.cedar_values.proofs.HashForms.{all_kept}
use Rattle.cedar_values.proofs.Hashed.{all_both, set_hash}

joined : (a b c d : Bool) → ((a && b) && (c && d)) ≡ (a && (c && (b && d)))
joined true true c d = ap (λ x. c && x) refl
joined true false true d = refl
joined true false false d = refl
joined false b c d = refl

module _ {X : Type 0} where
  pub set_values : (s : Set X) → bare_set s ≡ values_of (map bare_value (members s))
  unfolding members
  set_values s = fold_out-Set X (BareValue X) (BareValues X) (BareValue X) kind_step set_step value_step s

module _ {X : Type 0} (R : X → X → Ordering) where
  all_members : (vs : List (Value X)) → are_well_formed R (values_of (map bare_value vs)) ≡ list_all (λ v. is_well_formed R (bare_value v)) vs
  all_members [] = refl
  all_members (v ∷ vs) = ap (λ b. is_well_formed R (bare_value v) && b) (all_members vs)

  set_ascends : (s : Set X) → is_well_formed R (SetValue (bare_set s)) ≡ (ascends (by_tree R) (members s) && list_all (λ v. is_well_formed R (bare_value v)) (members s))
  set_ascends s =
      ap (λ ts. is_well_formed R (SetValue ts)) (set_values s)
      ∙ λ i. (ap (ascends (value_cmp R)) (list_of_values (map bare_value (members s))) ∙ sym (ascending_images bare_value (value_cmp R) (members s))) i && all_members (members s) i

  -- a set ascends, has its hash form, and each member is well formed
  pub set_is : (s : Set X) → set_well_formed R s ≡ (ascends (by_tree R) (members s) && (has_hash_form s && list_all (well_formed R) (members s)))
  unfolding well_formed set_well_formed
  set_is s =
      (λ i. set_ascends s i && set_hash s i)
      ∙ joined (ascends (by_tree R) (members s)) (list_all (λ v. is_well_formed R (bare_value v)) (members s)) (has_hash_form s) (list_all is_hashed (members s))
      ∙ ap (λ b. ascends (by_tree R) (members s) && (has_hash_form s && b)) (all_both (λ v. is_well_formed R (bare_value v)) is_hashed (members s))

  pub set_is_hashed : (s : Set X) → set_well_formed R s ≡ true → has_hash_form s ≡ true
  set_is_hashed s h = (and_parts (has_hash_form s) _ (and_parts (ascends (by_tree R) (members s)) _ (sym (set_is s) ∙ h)).1).0

  -- the literals that a well formed set keeps by hash
  pub form_is : (s : Set X) → set_well_formed R s ≡ true → (f : Option (List BareLiteral)) → hashed_literals s ≡ f → is_hash_form (map bare_value (members s)) f ≡ true
  form_is s h f is = ap (is_hash_form (map bare_value (members s))) (sym is) ∙ set_is_hashed s h

  -- sets of the same members, with the same literals by hash
  pub same_set : (s t : Set X) → members s ≡ members t → hashed_literals s ≡ hashed_literals t → set_well_formed R s ≡ set_well_formed R t
  same_set s t same hashed =
      set_is s
      ∙ (λ i. ascends (by_tree R) (same i) && (is_hash_form (map bare_value (same i)) (hashed i) && list_all (well_formed R) (same i)))
      ∙ sym (set_is t)

  pub sorted_members : IsTotalOrder (by_tree R) → (s : Set X) → set_well_formed R s ≡ true → IsStrictlySortedBy (by_tree R) (members s)
  sorted_members o s h = sorted_of_ascends o (members s) (and_parts (ascends (by_tree R) (members s)) _ (sym (set_is s) ∙ h)).0

  -- a set of the classes of well formed values, with its hash form, is well formed
  pub kept_of_classes : (s : Set X) (values : List (Value X)) → IsClassesOf (by_tree R) (members s) values → has_hash_form s ≡ true → list_all (well_formed R) values ≡ true → set_well_formed R s ≡ true
  kept_of_classes s values h form all =
      set_is s
      ∙ λ i. ascends_of_sorted (by_tree R) (members s) h.ascending i && (form i && all_kept (well_formed R) (members s) values h.kept all i)

-- what is known by the order that values have, by that of their trees
module _ {X : Type 0} (R : X → X → Ordering) {C : Value X → Value X → Ordering} (order : (a b : Value X) → C a b ≡ by_tree R a b) where
  cmp_is : C ≡ by_tree R
  cmp_is = λ i a b. order a b i

  pub by_trees : (P : (Value X → Value X → Ordering) → Type 0) → P C → P (by_tree R)
  by_trees P h = subst P cmp_is h

  module _ (total : IsTotalOrder (by_tree R)) where
    pub of_set : (P : (Value X → Value X → Ordering) → List (Value X) → Type 0) (s : Set X) (xs : List (Value X)) → xs ≡ members s
        → (IsStrictlySortedBy C xs → P C xs) → set_well_formed R s ≡ true → P (by_tree R) (members s)
    of_set P s xs at h kept =
        by_trees (λ D. IsStrictlySortedBy D (members s) → P D (members s)) (subst (λ l. IsStrictlySortedBy C l → P C l) at h) (sorted_members R total s kept)

    pub of_sets : (P : (Value X → Value X → Ordering) → List (Value X) → List (Value X) → Type 0) (s t : Set X) (xs ys : List (Value X)) → xs ≡ members s → ys ≡ members t
        → (IsStrictlySortedBy C xs → IsStrictlySortedBy C ys → P C xs ys) → set_well_formed R s ≡ true → set_well_formed R t ≡ true → P (by_tree R) (members s) (members t)
    of_sets P s t xs ys at at' h kept kept' =
        by_trees (λ D. IsStrictlySortedBy D (members s) → IsStrictlySortedBy D (members t) → P D (members s) (members t))
        (subst (λ l. IsStrictlySortedBy C l → IsStrictlySortedBy C (members t) → P C l (members t)) at
        (subst (λ l. IsStrictlySortedBy C xs → IsStrictlySortedBy C l → P C xs l) at' h))
        (sorted_members R total s kept) (sorted_members R total t kept')
