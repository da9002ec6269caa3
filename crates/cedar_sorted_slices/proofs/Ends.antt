-- Two strictly ascending lists of which one is shorter, or ends before the other begins.
use Rattle.std.proofs.Common.{◌≡◌, ℕ, zero, suc, ◌+◌, ◌-◌, ◌≤◌, ◌||◌, false, List, [], ◌∷◌, length, slice_get, Some, refl, sym, ap, subst, ◌∙◌, arith}
use Rattle.std.proofs.lemmas.Bool.{both_ways}
use Rattle.std.proofs.lemmas.Map.Keys.{sorted_tail}
use Rattle.std.specs.Cmp.{IsTotalOrder, alike_right}
use Rattle.std.specs.List.{AllByRecursion}
use Rattle.std.specs.List.Sorted.{IsStrictlySortedBy}
use Rattle.std.specs.Ordering.{is_eq, ordering_reverse}
use Rattle.std.specs.declared.cmp.Ordering.{Ordering}
use Rattle.std.specs.declared.cmp.Ordering.TheVariants.{Less, Greater}
use Rattle.cedar_sorted_slices.specs.Classes.{has_class, IsPartOf, HaveNoneInCommon}
use Rattle.cedar_sorted_slices.specs.Unique.{by_order, has_first}
use Rattle.cedar_sorted_slices.proofs.FirstItems.{before_first, not_part, part_of_both, part_of_rest, swapped}

module _ {K : Type 0} {R : K → K → Ordering} (o : IsTotalOrder R) where
  -- what is part of a list is no longer
  pub no_longer : (xs ys : List K) → IsStrictlySortedBy R xs → IsStrictlySortedBy R ys → IsPartOf R xs ys → length xs ≤ length ys
  no_longer [] ys s t h = omega arith
  no_longer (x ∷ xs) [] s t h = absurd (both_ways false refl (h x (has_first o x xs)))
  no_longer (x ∷ xs) (y ∷ ys) s t h =
      by_order (R x y)
      (λ l. absurd (not_part o x xs y ys l t h))
      (λ e. let rest = no_longer xs ys (sorted_tail R x xs s) (sorted_tail R y ys t) ((part_of_both o x xs y ys e s).0 h) in omega arith)
      (λ g. let rest = no_longer (x ∷ xs) ys s (sorted_tail R y ys t) ((part_of_rest o x xs y ys g s).0 h) in omega arith)

  not_below : (q : K) (xs : List K) → AllByRecursion (λ x. R x q ≡ Less) xs → has_class R xs q ≡ false
  not_below q [] h = refl
  not_below q (x ∷ xs) h =
      let here : R q x ≡ Greater = o.antisymm q x ∙ ap ordering_reverse h.0 in
      λ i. is_eq (here i) || not_below q xs h.1 i

  -- what is above the last item is above all
  below_last : (xs : List K) (k : ℕ) (z w : K) → IsStrictlySortedBy R xs → Some z ≡ slice_get xs k → length xs ≤ k + 1 → R z w ≡ Less → AllByRecursion (λ x. R x w ≡ Less) xs
  unfolding IsStrictlySortedBy
  below_last [] k z w s is end l = tt
  below_last (x ∷ []) zero z w s is end l = let same : z ≡ x = cc in (subst (λ v. R v w ≡ Less) same l, tt)
  below_last (x ∷ []) (suc k) z w s is end l = cc
  below_last (x ∷ y ∷ ys) zero z w s is end l = absurd (omega arith)
  below_last (x ∷ y ∷ ys) (suc k) z w s is end l =
      let rest = below_last (y ∷ ys) k z w s.1 is (omega arith) l in
      (o.trans x y w s.0.0 rest.0, rest)

  -- a list that ends before another begins has no class of it
  pub apart : (xs ys : List K) (last first : K) → IsStrictlySortedBy R xs → IsStrictlySortedBy R ys → Some last ≡ slice_get xs (length xs - 1) → Some first ≡ slice_get ys 0 → R last first ≡ Less → HaveNoneInCommon R xs ys
  apart xs [] last first s t at_last at_first l q h g = cc
  apart xs (y ∷ ys) last first s t at_last at_first l q h g =
      let same : first ≡ y = cc in
      let before : R last y ≡ Less = subst (λ v. R last v ≡ Less) same l in
      let none : R last q ≡ Less → ⊥ = λ l. both_ways _ (not_below q xs (below_last xs (length xs - 1) last q s at_last (omega arith) l)) h in
      by_order (R y q)
      (λ l. none (o.trans last y q before l))
      (λ e. none (sym (alike_right o y q last e) ∙ before))
      (λ g'. both_ways _ (before_first o q y ys (swapped o y q g') t) g)
