-- What a sort, a dedup and a binary search say of the classes in a list.
use Rattle.std.proofs.Common.{◌≡◌, ℕ, ◌+◌, Bool, true, false, cond, ◌||◌, List, [], ◌∷◌, length, get_or, refl, sym, ap, ◌∙◌, arith, Result, Ok, Err, is_ok, ⊎_elim}
use Rattle.std.specs.List.{dedup, dedup_from, AllWithin}
use Rattle.std.specs.List.Sorted.{IsStrictlySortedBy, IsPermutation, IsBinarySearchResult, IsSearchInRange, IsSortedBy}
use Rattle.std.specs.Ordering.{eq_by_cmp, is_eq, is_lt, ordering_reverse}
use Rattle.std.specs.Cmp.{IsTotalOrder, tied_back, alike_right, Equal-is}
use Rattle.std.specs.declared.cmp.Ordering.{Ordering}
use Rattle.std.specs.declared.cmp.Ordering.TheVariants.{Less, Greater}
use Rattle.std.proofs.lemmas.Bool.{cases_lt}
use Rattle.std.proofs.lemmas.List.Sorted.{list_any-IsPermutation, searchable_from_sorted}
use Rattle.std.proofs.lemmas.List.Folds.{list_any_at, list_any_none}
use Rattle.std.proofs.lemmas.Map.Keys.{Less-from_sorted}
use Rattle.cedar_sorted_slices.specs.Classes.{has_class}

or_same : (a b : Bool) → (a || (a || b)) ≡ (a || b)
or_same true b = refl
or_same false b = refl

module _ {K : Type 0} {R : K → K → Ordering} (o : IsTotalOrder R) where
  pub has-permutation : (xs ys : List K) (q : K) → IsPermutation xs ys → has_class R ys q ≡ has_class R xs q
  has-permutation xs ys q h = sym (list_any-IsPermutation (eq_by_cmp R q) xs ys h)

  module _ {E : K → K → Bool} (ties : (x y : K) → E x y ≡ eq_by_cmp R x y) where
    has-dedup_from : (k : K) (xs : List K) (q : K) → has_class R (dedup_from E k xs) q ≡ has_class R (k ∷ xs) q
    has-dedup_from k [] q = refl
    has-dedup_from k (x ∷ xs) q =
        elim (E x k) as (λ b. E x k ≡ b → has_class R (cond b (dedup_from E k xs) (k ∷ dedup_from E x xs)) q ≡ (eq_by_cmp R q k || (eq_by_cmp R q x || has_class R xs q))) [
          | true ↦ λ t. has-dedup_from k xs q ∙ sym (or_same (eq_by_cmp R q k) (has_class R xs q)) ∙ ap (λ b. eq_by_cmp R q k || (b || has_class R xs q)) (ap is_eq (sym (alike_right o x k q ((Equal-is (R x k)).0 (sym (ties x k) ∙ t)))))
          | false ↦ λ _. ap (λ b. eq_by_cmp R q k || b) (has-dedup_from x xs q)
        ] refl

    pub has-dedup : (xs : List K) (q : K) → has_class R (dedup E xs) q ≡ has_class R xs q
    has-dedup [] q = refl
    has-dedup (x ∷ xs) q = has-dedup_from x xs q

  sorted_by : (xs : List K) → IsStrictlySortedBy R xs → IsSortedBy (λ a b. is_lt (R a b)) xs
  sorted_by xs s k d low high = ap is_lt (o.antisymm (get_or xs (k + 1) d) (get_or xs k d) ∙ ap ordering_reverse (Less-from_sorted R xs k (k + 1) d s (omega arith) high))

  absent : (xs : List K) (q : K) (i : ℕ) → AllWithin (λ y. R y q ≡ Less) xs 0 i → AllWithin (λ y. R y q ≡ Greater) xs i (length xs) → has_class R xs q ≡ false
  absent xs q i below above = list_any_none (eq_by_cmp R q) xs (λ k d l. ap is_eq (o.antisymm q (get_or xs k d)) ∙ ⊎_elim (λ h. ap (λ r. is_eq (ordering_reverse r)) (below k d (omega arith) h)) (λ h. ap (λ r. is_eq (ordering_reverse r)) (above k d h l)) (cases_lt k i))

  -- what a binary search says of the class of a key
  pub found : (xs : List K) (q : K) (r : Result ℕ ℕ) → IsStrictlySortedBy R xs → IsSearchInRange r (length xs) → IsBinarySearchResult (λ y. R y q) xs r → is_ok r ≡ has_class R xs q
  found xs q (Ok i) s bound h = sym (list_any_at (eq_by_cmp R q) xs i q bound (ap is_eq (tied_back o _ _ (h q))))
  found xs q (Err i) s bound h = let p = h (searchable_from_sorted o (λ y. y) xs q (sorted_by xs s)) in sym (absent xs q i p.0 p.1)
