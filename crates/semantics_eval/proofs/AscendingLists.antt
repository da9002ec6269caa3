-- The list that insertion makes ascends strictly and has the classes of the items, each as one of
-- them.
use Rattle.std.proofs.Common.{◌≡◌, refl, sym, ◌∙◌, ap, subst, Bool, true, false, ◌||◌, List, [], ◌∷◌}
use Rattle.std.proofs.lemmas.List.Elements.{All-contains, All-contains_itself, All-head, All-tail}
use Rattle.std.proofs.lemmas.Map.Views.{All-insert_key}
use Rattle.std.specs.BTreeSet.{insert_key}
use Rattle.std.specs.Cmp.{IsTotalOrder}
use Rattle.std.specs.List.{All, AllByRecursion, Contains}
use Rattle.std.specs.List.Sorted.{IsStrictlySortedBy}
use Rattle.std.specs.Ordering.{eq_by_cmp, is_eq, match_ordering, ordering_reverse}
use Rattle.std.specs.declared.cmp.Ordering.{Ordering}
use Rattle.std.specs.declared.cmp.Ordering.TheVariants.{Less, Equal, Greater}
use Rattle.cedar_sorted_slices.specs.Classes.{has_class, IsClassesOf}
use Rattle.cedar_sorted_slices.specs.Unique.{by_order, lower}
use Rattle.semantics_eval.specs.Rows.{ascending_list}

or_again : (a b : Bool) → (a || b) ≡ (a || (a || b))
or_again true b = refl
or_again false b = refl

or_swapped : (a b c : Bool) → (a || (b || c)) ≡ (b || (a || c))
or_swapped true true c = refl
or_swapped true false c = refl
or_swapped false true c = refl
or_swapped false false c = refl

module _ {K : Type 0} (R : K → K → Ordering) where
  -- the list with an item at its place, by how the item compares with the first
  abbrev pub put : K → K → List K → Ordering → List K
  put x y ys r = match_ordering r (x ∷ y ∷ ys) (y ∷ ys) (y ∷ insert_key R ys x)

  -- what holds of the item and of each of the list holds of each of the new list
  above_all : (P : K → Type 0) (x : K) (ys : List K) → P x → AllByRecursion P ys
      → AllByRecursion P (insert_key R ys x)
  above_all P x [] p h = (p, tt)
  above_all P x (y ∷ ys) p h =
      let rest = above_all P x ys p h.1 in
      elim (R x y) as (λ r. AllByRecursion P (put x y ys r)) [
        | Less ↦ (p, h)
        | Equal ↦ h
        | Greater ↦ (h.0, rest)
      ]

  all_kept : (P : K → Type 0) (xs : List K) → All P xs → All P (ascending_list R xs)
  all_kept P [] h = h
  all_kept P (x ∷ xs) h =
      All-insert_key R x P (ascending_list R xs) (all_kept P xs (All-tail P x xs h))
      (All-head P x xs h)

module _ {K : Type 0} {R : K → K → Ordering} (o : IsTotalOrder R) where
  sorted_insert : (x : K) (ys : List K) → IsStrictlySortedBy R ys
      → IsStrictlySortedBy R (insert_key R ys x)
  unfolding IsStrictlySortedBy
  sorted_insert x [] s = (tt, tt)
  sorted_insert x (y ∷ ys) s =
      let rest = sorted_insert x ys s.1 in
      by_order (R x y)
      (λ l. subst (λ r. IsStrictlySortedBy R (put R x y ys r)) (sym l) ((l, lower o x y ys l s.0), s))
      (λ e. subst (λ r. IsStrictlySortedBy R (put R x y ys r)) (sym e) s)
      (λ g. subst (λ r. IsStrictlySortedBy R (put R x y ys r)) (sym g)
      (above_all R (λ z. R y z ≡ Less) x ys (o.antisymm y x ∙ ap ordering_reverse g) s.0, rest))

  sorted : (xs : List K) → IsStrictlySortedBy R (ascending_list R xs)
  unfolding IsStrictlySortedBy
  sorted [] = tt
  sorted (x ∷ xs) = sorted_insert x (ascending_list R xs) (sorted xs)

  -- items that tie are of one class
  alike : (x y q : K) → R x y ≡ Equal → eq_by_cmp R q y ≡ eq_by_cmp R q x
  alike x y q e =
      ap is_eq
      (o.antisymm q y ∙ ap ordering_reverse (sym (o.congr x y q e)) ∙ sym (o.antisymm q x))

  has_insert : (x : K) (ys : List K) (q : K)
      → has_class R (insert_key R ys x) q ≡ (eq_by_cmp R q x || has_class R ys q)
  has_insert x [] q = refl
  has_insert x (y ∷ ys) q =
      let rest = has_insert x ys q in
      by_order (R x y)
      (λ l. ap (λ r. has_class R (put R x y ys r) q) l)
      (λ e. ap (λ r. has_class R (put R x y ys r) q) e
      ∙ (or_again (eq_by_cmp R q y) (has_class R ys q)
      ∙ ap (λ b. b || (eq_by_cmp R q y || has_class R ys q)) (alike x y q e)))
      (λ g. ap (λ r. has_class R (put R x y ys r) q) g
      ∙ (ap (λ b. eq_by_cmp R q y || b) rest
      ∙ or_swapped (eq_by_cmp R q y) (eq_by_cmp R q x) (has_class R ys q)))

  same : (xs : List K) (q : K) → has_class R (ascending_list R xs) q ≡ has_class R xs q
  same [] q = refl
  same (x ∷ xs) q = has_insert x (ascending_list R xs) q ∙ ap (λ b. eq_by_cmp R q x || b) (same xs q)

  kept : (xs : List K) (x : K) → Contains (ascending_list R xs) x → Contains xs x
  kept xs x =
      All-contains (Contains xs) (ascending_list R xs) x
      (all_kept R (Contains xs) xs (All-contains_itself xs))

  pub classes_of : (xs : List K) → IsClassesOf R (ascending_list R xs) xs
  classes_of xs = record {
    ascending = sorted xs;
    same = same xs;
    kept = kept xs;
  }
