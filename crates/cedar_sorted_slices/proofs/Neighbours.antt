-- A test of each item and the next says whether the list ascends.
use Rattle.std.proofs.Common.{◌≡◌, ℕ, zero, suc, ◌<◌, Bool, true, false, ◌&&◌, List, [], ◌∷◌, length, get_or, refl, sym, ap, ◌∙◌, arith, add-one}
use Rattle.std.specs.List.{IsAllAdjacentAnswer}
use Rattle.std.specs.Ordering.{is_lt}
use Rattle.std.specs.declared.cmp.Ordering.{Ordering}
use Rattle.cedar_sorted_slices.specs.Classes.{ascends}

and_false : (a : Bool) → (a && false) ≡ false
and_false true = refl
and_false false = refl

module _ {K : Type 0} (R : K → K → Ordering) where
  -- whether the item at k is before the next
  abbrev is_before_next : List K → ℕ → K → Bool
  is_before_next xs k d = is_lt (R (get_or xs k d) (get_or xs (suc k) d))

  each_before_next : (xs : List K) → ((k : ℕ) (d : K) → suc k < length xs → true ≡ is_before_next xs k d) → ascends R xs ≡ true
  each_before_next [] h = refl
  each_before_next (x ∷ []) h = refl
  each_before_next (x ∷ y ∷ ys) h =
      λ i. sym (h 0 x (omega arith)) i && each_before_next (y ∷ ys) (λ k d l. h (suc k) d (omega arith)) i

  some_not_before_next : (xs : List K) (k : ℕ) → suc k < length xs → ((d : K) → false ≡ is_before_next xs k d) → ascends R xs ≡ false
  some_not_before_next [] k l h = absurd (omega arith)
  some_not_before_next (x ∷ []) k l h = absurd (omega arith)
  some_not_before_next (x ∷ y ∷ ys) zero l h = ap (λ b. b && ascends R (y ∷ ys)) (sym (h x))
  some_not_before_next (x ∷ y ∷ ys) (suc k) l h =
      ap (λ b. is_lt (R x y) && b) (some_not_before_next (y ∷ ys) k (omega arith) h) ∙ and_false (is_lt (R x y))

  pub answers_ascends : (xs : List K) (r : Bool) → IsAllAdjacentAnswer (λ x y b. b ≡ is_lt (R x y)) xs r → r ≡ ascends R xs
  answers_ascends xs true h = sym (each_before_next xs (λ k d l. rw add-one at (h k d (omega arith))))
  answers_ascends xs false h = sym (some_not_before_next xs h.0 (omega (arith, h.1)) (λ d. rw add-one at (h.2 d)))
