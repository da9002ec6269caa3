-- Lists that ascend and have the same classes tie, item by item.
use Rattle.std.proofs.Common.{◌≡◌, true, false, ◌||◌, suc, List, [], ◌∷◌, length, refl, sym, ap, ◌∙◌}
use Rattle.std.specs.List.{AllByRecursion}
use Rattle.std.specs.List.Sorted.{IsStrictlySortedBy}
use Rattle.std.specs.Cmp.{IsTotalOrder, tied_itself, Equal-is}
use Rattle.std.specs.Cmp.Lexicographic.{slice_cmp}
use Rattle.std.specs.Ordering.{eq_by_cmp, is_eq, ordering_then, ordering_reverse}
use Rattle.std.specs.declared.cmp.Ordering.{Ordering}
use Rattle.std.specs.declared.cmp.Ordering.TheVariants.{Less, Equal, Greater}
use Rattle.std.proofs.lemmas.Bool.{both_ways}
use Rattle.cedar_sorted_slices.specs.Classes.{has_class}

no_less : Less ≡ Equal → ⊥
no_less h = cc

no_more : Greater ≡ Equal → ⊥
no_more h = cc

pub by_order : {P : Type 0} (r : Ordering) → (r ≡ Less → P) → (r ≡ Equal → P) → (r ≡ Greater → P) → P
by_order Less a b c = a refl
by_order Equal a b c = b refl
by_order Greater a b c = c refl

module _ {K : Type 0} {R : K → K → Ordering} (o : IsTotalOrder R) where
  -- keys of one class are in the same lists
  pub has_alike : (xs : List K) (q x : K) → eq_by_cmp R q x ≡ true → has_class R xs q ≡ has_class R xs x
  has_alike [] q x t = refl
  has_alike (y ∷ ys) q x t = λ i. is_eq (o.congr q x y ((Equal-is (R q x)).0 t) i) || has_alike ys q x t i

  -- what is before each item has no item's class
  pub not_above : (q : K) (xs : List K) → AllByRecursion (λ y. R q y ≡ Less) xs → has_class R xs q ≡ false
  not_above q [] h = refl
  not_above q (x ∷ xs) h = λ i. is_eq (h.0 i) || not_above q xs h.1 i

  pub lower : (q x : K) (xs : List K) → R q x ≡ Less → AllByRecursion (λ y. R x y ≡ Less) xs → AllByRecursion (λ y. R q y ≡ Less) xs
  lower q x [] l h = tt
  lower q x (y ∷ ys) l h = (o.trans q x y l h.0, lower q x ys l h.1)

  pub level : (q x : K) (xs : List K) → R q x ≡ Equal → AllByRecursion (λ y. R x y ≡ Less) xs → AllByRecursion (λ y. R q y ≡ Less) xs
  level q x [] l h = tt
  level q x (y ∷ ys) l h = (o.congr q x y l ∙ h.0, level q x ys l h.1)

  pub has_first : (x : K) (xs : List K) → has_class R (x ∷ xs) x ≡ true
  has_first x xs = ap (λ r. is_eq r || has_class R xs x) (tied_itself o x)

  below_absent : (x y : K) (ys : List K) → R x y ≡ Less → IsStrictlySortedBy R (y ∷ ys) → has_class R (y ∷ ys) x ≡ false
  unfolding IsStrictlySortedBy
  below_absent x y ys l s = not_above x (y ∷ ys) (l, lower x y ys l s.0)

  rest_alike : (x y : K) (xs ys : List K) → R x y ≡ Equal → IsStrictlySortedBy R (x ∷ xs) → IsStrictlySortedBy R (y ∷ ys) → ((q : K) → has_class R (x ∷ xs) q ≡ has_class R (y ∷ ys) q) → (q : K) → has_class R xs q ≡ has_class R ys q
  unfolding IsStrictlySortedBy
  rest_alike x y xs ys e s t h q =
      let alike : eq_by_cmp R q x ≡ eq_by_cmp R q y = ap is_eq (o.antisymm q x ∙ ap ordering_reverse (o.congr x y q e) ∙ sym (o.antisymm q y)) in
      elim (eq_by_cmp R q x) as (λ b. eq_by_cmp R q x ≡ b → (b || has_class R xs q) ≡ (b || has_class R ys q) → has_class R xs q ≡ has_class R ys q) [
        | true ↦ λ p _. not_above q xs (level q x xs ((Equal-is (R q x)).0 p) s.0) ∙ sym (not_above q ys (level q y ys ((Equal-is (R q y)).0 (sym alike ∙ p)) t.0))
        | false ↦ λ _ w. w
      ] refl (h q ∙ ap (λ b. b || has_class R ys q) (sym alike))

  pub same_classes_tie : (xs ys : List K) → IsStrictlySortedBy R xs → IsStrictlySortedBy R ys → ((q : K) → has_class R xs q ≡ has_class R ys q) → slice_cmp R xs ys ≡ Equal
  unfolding IsStrictlySortedBy
  same_classes_tie [] [] s t h = refl
  same_classes_tie [] (y ∷ ys) s t h = absurd (both_ways _ (sym (h y)) (has_first y ys))
  same_classes_tie (x ∷ xs) [] s t h = absurd (both_ways _ (h x) (has_first x xs))
  same_classes_tie (x ∷ xs) (y ∷ ys) s t h =
      by_order (R x y)
      (λ l. absurd (both_ways _ (h x ∙ below_absent x y ys l t) (has_first x xs)))
      (λ e. ap (λ r. ordering_then r (slice_cmp R xs ys)) e ∙ same_classes_tie xs ys s.1 t.1 (rest_alike x y xs ys e s t h))
      (λ g. absurd (both_ways _ (sym (h y) ∙ below_absent y x xs (o.antisymm y x ∙ ap ordering_reverse g) s) (has_first y ys)))

  -- and those that tie have the same classes
  pub tied_has : (xs ys : List K) → slice_cmp R xs ys ≡ Equal → (q : K) → has_class R xs q ≡ has_class R ys q
  tied_has [] [] h q = refl
  tied_has [] (y ∷ ys) h q = cc
  tied_has (x ∷ xs) [] h q = cc
  tied_has (x ∷ xs) (y ∷ ys) h q =
      by_order (R x y)
      (λ l. absurd (no_less (ap (λ r. ordering_then r (slice_cmp R xs ys)) (sym l) ∙ h)))
      (λ e. λ i. is_eq ((o.antisymm q x ∙ ap ordering_reverse (o.congr x y q e) ∙ sym (o.antisymm q y)) i) || tied_has xs ys (ap (λ r. ordering_then r (slice_cmp R xs ys)) (sym e) ∙ h) q i)
      (λ g. absurd (no_more (ap (λ r. ordering_then r (slice_cmp R xs ys)) (sym g) ∙ h)))

  -- lists that tie are equally long
  pub tied_length : (xs ys : List K) → slice_cmp R xs ys ≡ Equal → length xs ≡ length ys
  tied_length [] [] h = refl
  tied_length [] (y ∷ ys) h = cc
  tied_length (x ∷ xs) [] h = cc
  tied_length (x ∷ xs) (y ∷ ys) h =
      by_order (R x y)
      (λ l. absurd (no_less (ap (λ r. ordering_then r (slice_cmp R xs ys)) (sym l) ∙ h)))
      (λ e. ap suc (tied_length xs ys (ap (λ r. ordering_then r (slice_cmp R xs ys)) (sym e) ∙ h)))
      (λ g. absurd (no_more (ap (λ r. ordering_then r (slice_cmp R xs ys)) (sym g) ∙ h)))
