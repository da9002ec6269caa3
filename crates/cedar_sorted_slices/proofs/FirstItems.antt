-- The first items of two strictly ascending lists are compared: what is left says what the whole says.
use Rattle.std.proofs.Common.{◌≡◌, Bool, true, false, ◌||◌, ◌↔◌, List, [], ◌∷◌, length, refl, sym, ap, subst, ◌∙◌, arith}
use Rattle.std.proofs.lemmas.Bool.{both_ways, or_right}
use Rattle.std.proofs.lemmas.Map.Keys.{sorted_tail}
use Rattle.std.specs.Cmp.{IsTotalOrder, Equal-is}
use Rattle.std.specs.List.Sorted.{IsStrictlySortedBy}
use Rattle.std.specs.Ordering.{eq_by_cmp, is_eq, ordering_reverse}
use Rattle.std.specs.declared.cmp.Ordering.{Ordering}
use Rattle.std.specs.declared.cmp.Ordering.TheVariants.{Less, Equal, Greater}
use Rattle.cedar_sorted_slices.specs.Classes.{has_class, IsPartOf, HaveNoneInCommon}
use Rattle.cedar_sorted_slices.specs.Unique.{has_alike, not_above, lower, level, has_first}

-- a class of a list is that of the first item, or in the rest
first_or_rest : {P : Type 0} (a b : Bool) → (a || b) ≡ true → (a ≡ true → P) → (b ≡ true → P) → P
first_or_rest true b h f r = f refl
first_or_rest false b h f r = r h

module _ {K : Type 0} {R : K → K → Ordering} (o : IsTotalOrder R) where
  -- what is before the first item has no class in the list
  pub before_first : (q y : K) (ys : List K) → R q y ≡ Less → IsStrictlySortedBy R (y ∷ ys) → has_class R (y ∷ ys) q ≡ false
  unfolding IsStrictlySortedBy
  before_first q y ys l s = not_above o q (y ∷ ys) (l, lower o q y ys l s.0)

  -- nor has what ties with the first item a class in the rest
  not_in_rest : (q y : K) (ys : List K) → R q y ≡ Equal → IsStrictlySortedBy R (y ∷ ys) → has_class R ys q ≡ false
  unfolding IsStrictlySortedBy
  not_in_rest q y ys e s = not_above o q ys (level o q y ys e s.0)

  -- a key of one item's class is of the class of an item that ties with it
  same_class : (q x y : K) → R x y ≡ Equal → eq_by_cmp R q x ≡ eq_by_cmp R q y
  same_class q x y e = ap is_eq (o.antisymm q x ∙ ap ordering_reverse (o.congr x y q e) ∙ sym (o.antisymm q y))

  pub swapped : (x y : K) → R x y ≡ Greater → R y x ≡ Less
  swapped x y g = o.antisymm y x ∙ ap ordering_reverse g

  -- the first list's first item is below all of the second: it is not in there
  pub not_part : (x : K) (xs : List K) (y : K) (ys : List K) → R x y ≡ Less → IsStrictlySortedBy R (y ∷ ys) → IsPartOf R (x ∷ xs) (y ∷ ys) → ⊥
  not_part x xs y ys l s h = both_ways _ (before_first x y ys l s) (h x (has_first o x xs))

  -- the first items tie
  pub part_of_both : (x : K) (xs : List K) (y : K) (ys : List K) → R x y ≡ Equal → IsStrictlySortedBy R (x ∷ xs) → IsPartOf R (x ∷ xs) (y ∷ ys) ↔ IsPartOf R xs ys
  part_of_both x xs y ys e s = (
    λ h q t. first_or_rest (eq_by_cmp R q y) (has_class R ys q) (h q (or_right (eq_by_cmp R q x) (has_class R xs q) t))
        (λ tied. absurd (both_ways _ (not_in_rest q x xs ((Equal-is (R q x)).0 (same_class q x y e ∙ tied)) s) t))
        (λ rest. rest),
    λ h q t. first_or_rest (eq_by_cmp R q x) (has_class R xs q) t
        (λ tied. ap (λ b. b || has_class R ys q) (sym (same_class q x y e) ∙ tied))
        (λ rest. or_right (eq_by_cmp R q y) (has_class R ys q) (h q rest)),
  )

  -- the second list's first item is below all of the first
  pub part_of_rest : (x : K) (xs : List K) (y : K) (ys : List K) → R x y ≡ Greater → IsStrictlySortedBy R (x ∷ xs) → IsPartOf R (x ∷ xs) (y ∷ ys) ↔ IsPartOf R (x ∷ xs) ys
  part_of_rest x xs y ys g s = (
    λ h q t. first_or_rest (eq_by_cmp R q y) (has_class R ys q) (h q t)
        (λ tied. absurd (both_ways _ (has_alike o (x ∷ xs) q y tied ∙ before_first y x xs (swapped x y g) s) t))
        (λ rest. rest),
    λ h q t. or_right (eq_by_cmp R q y) (has_class R ys q) (h q t),
  )

  -- the first items tie: their class is in both
  pub in_common : (x : K) (xs : List K) (y : K) (ys : List K) → R x y ≡ Equal → HaveNoneInCommon R (x ∷ xs) (y ∷ ys) → ⊥
  in_common x xs y ys e h = h x (has_first o x xs) (ap (λ r. is_eq r || has_class R ys x) e)

  -- the first list's first item is below all of the second
  pub none_but_rest : (x : K) (xs : List K) (y : K) (ys : List K) → R x y ≡ Less → IsStrictlySortedBy R (y ∷ ys) → HaveNoneInCommon R (x ∷ xs) (y ∷ ys) ↔ HaveNoneInCommon R xs (y ∷ ys)
  none_but_rest x xs y ys l s = (
    λ h q t u. h q (or_right (eq_by_cmp R q x) (has_class R xs q) t) u,
    λ h q t u. first_or_rest (eq_by_cmp R q x) (has_class R xs q) t
        (λ tied. both_ways _ (has_alike o (y ∷ ys) q x tied ∙ before_first x y ys l s) u)
        (λ rest. h q rest u),
  )

  -- and the other way round
  pub none_but_other_rest : (x : K) (xs : List K) (y : K) (ys : List K) → R x y ≡ Greater → IsStrictlySortedBy R (x ∷ xs) → HaveNoneInCommon R (x ∷ xs) (y ∷ ys) ↔ HaveNoneInCommon R (x ∷ xs) ys
  none_but_other_rest x xs y ys g s =
      let swap = none_but_rest y ys x xs (swapped x y g) s in (
        λ h q t u. swap.0 (λ q u t. h q t u) q u t,
        λ h q t u. swap.1 (λ q u t. h q t u) q u t,
      )

-- the lists that are left ascend strictly, and say what the whole says
pub record IsLeft {K : Type 0} (R : K → K → Ordering) (P : List K → List K → Type 0) (whole : Type 0) (xs ys : List K) : Type 0 where
  pub ascending : IsStrictlySortedBy R xs
  pub others_ascending : IsStrictlySortedBy R ys
  pub same : P xs ys ↔ whole

module _ {K : Type 0} {R : K → K → Ordering} (o : IsTotalOrder R) {whole : Type 0} {xs ys : List K} (x : K) (xs' : List K) (y : K) (ys' : List K) (first : xs ≡ x ∷ xs') (other : ys ≡ y ∷ ys') where
  module _ (P : List K → List K → Type 0) (h : IsLeft R P whole xs ys) where
    items : IsStrictlySortedBy R (x ∷ xs')
    items = subst (IsStrictlySortedBy R) first h.ascending

    others : IsStrictlySortedBy R (y ∷ ys')
    others = subst (IsStrictlySortedBy R) other h.others_ascending

    one_by_one : P (x ∷ xs') (y ∷ ys') ↔ whole
    one_by_one = subst (λ l. P l (y ∷ ys') ↔ whole) first (subst (λ l. P xs l ↔ whole) other h.same)

    left : (l m : List K) → IsStrictlySortedBy R l → IsStrictlySortedBy R m → P (x ∷ xs') (y ∷ ys') ↔ P l m → IsLeft R P whole l m
    left l m s t same = record {
      ascending = s;
      others_ascending = t;
      same = (λ p. one_by_one.0 (same.1 p), λ w. same.0 (one_by_one.1 w));
    }

  pub both_passed : R x y ≡ Equal → IsLeft R (IsPartOf R) whole xs ys → IsLeft R (IsPartOf R) whole xs' ys'
  both_passed e h =
      left (IsPartOf R) h xs' ys' (sorted_tail R x xs' (items (IsPartOf R) h)) (sorted_tail R y ys' (others (IsPartOf R) h)) (part_of_both o x xs' y ys' e (items (IsPartOf R) h))

  pub other_passed : R x y ≡ Greater → IsLeft R (IsPartOf R) whole xs ys → IsLeft R (IsPartOf R) whole xs ys'
  other_passed g h = subst (λ l. IsLeft R (IsPartOf R) whole l ys') (sym first)
      (left (IsPartOf R) h (x ∷ xs') ys' (items (IsPartOf R) h) (sorted_tail R y ys' (others (IsPartOf R) h)) (part_of_rest o x xs' y ys' g (items (IsPartOf R) h)))

  pub not_whole : R x y ≡ Less → IsLeft R (IsPartOf R) whole xs ys → whole → ⊥
  not_whole l h w = not_part o x xs' y ys' l (others (IsPartOf R) h) ((one_by_one (IsPartOf R) h).1 w)

  pub item_apart : R x y ≡ Less → IsLeft R (HaveNoneInCommon R) whole xs ys → IsLeft R (HaveNoneInCommon R) whole xs' ys
  item_apart l h = subst (λ m. IsLeft R (HaveNoneInCommon R) whole xs' m) (sym other)
      (left (HaveNoneInCommon R) h xs' (y ∷ ys') (sorted_tail R x xs' (items (HaveNoneInCommon R) h)) (others (HaveNoneInCommon R) h) (none_but_rest o x xs' y ys' l (others (HaveNoneInCommon R) h)))

  pub other_apart : R x y ≡ Greater → IsLeft R (HaveNoneInCommon R) whole xs ys → IsLeft R (HaveNoneInCommon R) whole xs ys'
  other_apart g h = subst (λ l. IsLeft R (HaveNoneInCommon R) whole l ys') (sym first)
      (left (HaveNoneInCommon R) h (x ∷ xs') ys' (items (HaveNoneInCommon R) h) (sorted_tail R y ys' (others (HaveNoneInCommon R) h)) (none_but_other_rest o x xs' y ys' g (items (HaveNoneInCommon R) h)))

  pub not_apart : R x y ≡ Equal → IsLeft R (HaveNoneInCommon R) whole xs ys → whole → ⊥
  not_apart e h w = in_common o x xs' y ys' e ((one_by_one (HaveNoneInCommon R) h).1 w)

-- where a list has no item
module _ {K : Type 0} {R : K → K → Ordering} {whole : Type 0} where
  pub nothing_to_find : (xs ys : List K) → length xs ≡ 0 → IsLeft R (IsPartOf R) whole xs ys → whole
  nothing_to_find [] ys e h = h.same.0 (λ q t. cc)
  nothing_to_find (x ∷ xs) ys e h = absurd (omega arith)

  pub nothing_to_find_in : IsTotalOrder R → (x : K) (xs xs' ys : List K) → xs ≡ x ∷ xs' → length ys ≡ 0 → IsLeft R (IsPartOf R) whole xs ys → whole → ⊥
  nothing_to_find_in o x xs xs' [] first e h w = both_ways false refl (h.same.1 w x (ap (λ l. has_class R l x) first ∙ has_first o x xs'))
  nothing_to_find_in o x xs xs' (y ∷ ys) first e h w = absurd (omega arith)

  pub none_left : (xs ys : List K) → length xs ≡ 0 → IsLeft R (HaveNoneInCommon R) whole xs ys → whole
  none_left [] ys e h = h.same.0 (λ q t u. cc)
  none_left (x ∷ xs) ys e h = absurd (omega arith)

  pub no_other_left : (xs ys : List K) → length ys ≡ 0 → IsLeft R (HaveNoneInCommon R) whole xs ys → whole
  no_other_left xs [] e h = h.same.0 (λ q t u. cc)
  no_other_left xs (y ∷ ys) e h = absurd (omega arith)
