-- Tests of two lists by their classes are tests of the items of one of them, for any total order.
use Rattle.std.specs.Prelude.{◌≡◌, true, false, ◌&&◌, ◌||◌, List, [], ◌∷◌, refl}
use Rattle.std.specs.Cmp.{IsTotalOrder}
use Rattle.std.specs.List.{list_all, list_any}
use Rattle.std.specs.Ordering.{eq_by_cmp}
use Rattle.std.specs.declared.cmp.Ordering.{Ordering}
use Rattle.std.proofs.Common.{sym, ◌∙◌, ⊎_elim}
use Rattle.std.proofs.lemmas.Bool.{and_parts, both_ways, cases_Bool, or_cases, or_parts, or_right}
use Rattle.cedar_sorted_slices.specs.Classes.{has_class, IsPartOf, HaveNoneInCommon, NoneIsAny, PartIsAll}
use Rattle.cedar_sorted_slices.specs.Unique.{has_alike, has_first}

module _ {K : Type 0} {R : K → K → Ordering} (o : IsTotalOrder R) where
  all_of_part : (xs ys : List K) → IsPartOf R xs ys → list_all (has_class R ys) xs ≡ true
  all_of_part [] ys h = refl
  all_of_part (x ∷ xs) ys h =
      let here = h x (has_first o x xs) in
      let rest = all_of_part xs ys (λ q r. h q (or_right (eq_by_cmp R q x) (has_class R xs q) r)) in
      λ i. here i && rest i

  part_of_all : (xs ys : List K) → list_all (has_class R ys) xs ≡ true → IsPartOf R xs ys
  part_of_all [] ys h q r = cc
  part_of_all (x ∷ xs) ys h q r =
      let both = and_parts (has_class R ys x) (list_all (has_class R ys) xs) h in
      ⊎_elim
      (λ tied. has_alike o ys q x tied ∙ both.0)
      (λ rest. part_of_all xs ys both.1 q rest)
      (or_cases (eq_by_cmp R q x) (has_class R xs q) r)

  pub part_by_items : PartIsAll R
  part_by_items xs ys = (all_of_part xs ys, part_of_all xs ys)

  any_of_none : (xs ys : List K) → HaveNoneInCommon R xs ys
      → list_any (has_class R ys) xs ≡ false
  any_of_none [] ys h = refl
  any_of_none (x ∷ xs) ys h =
      let rest =
      any_of_none xs ys (λ q r s. h q (or_right (eq_by_cmp R q x) (has_class R xs q) r) s) in
      ⊎_elim
      (λ is. absurd (h x (has_first o x xs) is))
      (λ is. λ i. is i || rest i)
      (cases_Bool (has_class R ys x))

  none_of_any : (xs ys : List K) → list_any (has_class R ys) xs ≡ false
      → HaveNoneInCommon R xs ys
  none_of_any [] ys h q r s = cc
  none_of_any (x ∷ xs) ys h q r s =
      let both = or_parts (has_class R ys x) (list_any (has_class R ys) xs) h in
      ⊎_elim
      (λ tied. both_ways (has_class R ys x) both.0 (sym (has_alike o ys q x tied) ∙ s))
      (λ rest. none_of_any xs ys both.1 q rest s)
      (or_cases (eq_by_cmp R q x) (has_class R xs q) r)

  pub none_by_items : NoneIsAny R
  none_by_items xs ys = (any_of_none xs ys, none_of_any xs ys)
