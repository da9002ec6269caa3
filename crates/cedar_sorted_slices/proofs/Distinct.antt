-- A list that ascends, and has no two items of one class, ascends strictly.
use Rattle.std.proofs.Common.{◌≡◌, cond, List, [], ◌∷◌, refl, ap, subst, ◌∙◌}
use Rattle.std.specs.Cmp.{IsTotalOrder}
use Rattle.std.specs.List.{IsDistinct, dedup, dedup_from}
use Rattle.std.specs.List.Sorted.{IsSorted, IsStrictlySortedBy}
use Rattle.std.specs.Ordering.{eq_by_cmp}
use Rattle.std.specs.declared.cmp.Ordering.{Ordering}
use Rattle.std.proofs.lemmas.Cmp.{eq_by_cmp_equiv}
use Rattle.std.proofs.lemmas.List.Kept.{IsStrictlySortedBy-dedup}

module _ {K : Type 0} {R : K → K → Ordering} (o : IsTotalOrder R) where
  -- a search for repeats takes none away
  kept : (x : K) (xs : List K) → IsDistinct (eq_by_cmp R) (x ∷ xs) → dedup_from (eq_by_cmp R) x xs ≡ x ∷ xs
  unfolding IsDistinct
  kept x [] h = refl
  kept x (y ∷ ys) h =
      ap (λ b. cond b (dedup_from (eq_by_cmp R) x ys) (x ∷ dedup_from (eq_by_cmp R) y ys)) ((eq_by_cmp_equiv o).symm y x ∙ h.0.0)
      ∙ ap (λ zs. x ∷ zs) (kept y ys h.1)

  all_kept : (xs : List K) → IsDistinct (eq_by_cmp R) xs → dedup (eq_by_cmp R) xs ≡ xs
  all_kept [] h = refl
  all_kept (x ∷ xs) h = kept x xs h

  pub strictly : (xs : List K) → IsSorted R xs → IsDistinct (eq_by_cmp R) xs → IsStrictlySortedBy R xs
  strictly xs sorted h =
      subst (IsStrictlySortedBy R) (all_kept xs h) (IsStrictlySortedBy-dedup o (λ x y. refl) xs sorted)
