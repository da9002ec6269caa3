-- A list ascends, item by item, just where it ascends strictly, for any total order.
use Rattle.std.specs.Prelude.{◌≡◌, Bool, true, false, ◌&&◌, List, [], ◌∷◌, refl}
use Rattle.std.specs.Cmp.{IsTotalOrder}
use Rattle.std.specs.List.{AllByRecursion}
use Rattle.std.specs.List.Sorted.{IsStrictlySortedBy}
use Rattle.std.specs.Ordering.{is_lt}
use Rattle.std.specs.declared.cmp.Ordering.{Ordering}
use Rattle.std.specs.declared.cmp.Ordering.TheVariants.{Less, Equal, Greater}
use Rattle.std.proofs.Common.{ap, ◌∙◌}
use Rattle.std.proofs.lemmas.Bool.{and_parts}
use Rattle.cedar_sorted_slices.specs.Classes.{ascends}

pub less : (r : Ordering) → is_lt r ≡ true → r ≡ Less
less Less h = refl
less Equal h = cc
less Greater h = cc

module _ {K : Type 0} {R : K → K → Ordering} (o : IsTotalOrder R) where
  below : (x y : K) (ys : List K) → R x y ≡ Less → AllByRecursion (λ z. R y z ≡ Less) ys
      → AllByRecursion (λ z. R x z ≡ Less) ys
  below x y [] h t = tt
  below x y (z ∷ zs) h t = (o.trans x y z h t.0, below x y zs h t.1)

  pub sorted_of_ascends : (xs : List K) → ascends R xs ≡ true → IsStrictlySortedBy R xs
  unfolding IsStrictlySortedBy
  sorted_of_ascends [] h = tt
  sorted_of_ascends (x ∷ []) h = (tt, tt)
  sorted_of_ascends (x ∷ y ∷ ys) h =
      let first = less (R x y) (and_parts (is_lt (R x y)) _ h).0 in
      let rest = sorted_of_ascends (y ∷ ys) (and_parts (is_lt (R x y)) _ h).1 in
      ((first, below x y ys first rest.0), rest)

module _ {K : Type 0} (R : K → K → Ordering) where
  pub ascends_of_sorted : (xs : List K) → IsStrictlySortedBy R xs → ascends R xs ≡ true
  unfolding IsStrictlySortedBy
  ascends_of_sorted [] h = refl
  ascends_of_sorted (x ∷ []) h = refl
  ascends_of_sorted (x ∷ y ∷ ys) h = ap (λ r. is_lt r && ascends R (y ∷ ys)) h.0.0 ∙ ascends_of_sorted (y ∷ ys) h.1
