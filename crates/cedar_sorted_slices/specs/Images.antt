-- Classes of items are classes of what a function makes of them, for an order by that function.
use Rattle.std.specs.Prelude.{◌≡◌, true, false, ◌&&◌, ◌||◌, List, [], ◌∷◌, map, refl}
use Rattle.std.specs.Cmp.{IsTotalOrder}
use Rattle.std.specs.List.{AllByRecursion, Contains, list_all, list_any}
use Rattle.std.specs.List.Sorted.{IsStrictlySortedBy}
use Rattle.std.specs.Ordering.{eq_by_cmp, is_lt, on}
use Rattle.std.specs.declared.cmp.Ordering.{Ordering}
use Rattle.std.specs.declared.cmp.Ordering.TheVariants.{Less}
use Rattle.std.proofs.Common.{ap, sym, subst, ◌∙◌, arith, ⊎_elim}
use Rattle.std.proofs.lemmas.List.Elements.{Contains-append_left, Contains-append_right, Contains-append_cases, Contains-push, Contains-push_cases}
use Rattle.cedar_sorted_slices.specs.Classes.{has_class, HaveSameClasses, IsClassesOf, ascends}
use Rattle.cedar_sorted_slices.specs.Unique.{has_alike}

-- membership under a function
module _ {A B : Type 0} (f : A → B) where
  origin : (xs : List A) (t : B) → Contains (map f xs) t → (x : A) × Contains xs x × (f x ≡ t)
  origin [] t h = absurd (omega (arith, h.1))
  origin (x ∷ xs) t h =
      ⊎_elim
      (λ here. ⊎_elim (λ h. absurd (omega (arith, h.1))) (λ is. (x, Contains-append_left (x ∷ []) xs x (Contains-push [] x), is)) (Contains-push_cases [] (f x) t here))
      (λ later. let found = origin xs t later in (found.0, Contains-append_right (x ∷ []) xs found.0 found.1, found.2))
      (Contains-append_cases (f x ∷ []) (map f xs) t h)

  image : (xs : List A) (x : A) → Contains xs x → Contains (map f xs) (f x)
  image [] x h = absurd (omega (arith, h.1))
  image (y ∷ xs) x h =
      ⊎_elim
      (λ here. ⊎_elim (λ h. absurd (omega (arith, h.1))) (λ is. subst (λ z. Contains (f y ∷ map f xs) (f z)) is (Contains-append_left (f y ∷ []) (map f xs) (f y) (Contains-push [] (f y)))) (Contains-push_cases [] y x here))
      (λ later. Contains-append_right (f y ∷ []) (map f xs) (f x) (image xs x later))
      (Contains-append_cases (y ∷ []) xs x h)

module _ {A B : Type 0} (f : A → B) (R : B → B → Ordering) where
  pub has_image : (xs : List A) (x : A) → has_class R (map f xs) (f x) ≡ has_class (on f R) xs x
  has_image [] x = refl
  has_image (y ∷ xs) x = ap (λ b. eq_by_cmp R (f x) (f y) || b) (has_image xs x)

  -- tests of all items, or of any, by classes
  pub all_images : (xs ys : List A)
      → list_all (has_class R (map f ys)) (map f xs) ≡ list_all (has_class (on f R) ys) xs
  all_images [] ys = refl
  all_images (x ∷ xs) ys = λ i. has_image ys x i && all_images xs ys i

  pub any_images : (xs ys : List A)
      → list_any (has_class R (map f ys)) (map f xs) ≡ list_any (has_class (on f R) ys) xs
  any_images [] ys = refl
  any_images (x ∷ xs) ys = λ i. has_image ys x i || any_images xs ys i

  below : (x : A) (xs : List A) → AllByRecursion (λ y. R (f x) (f y) ≡ Less) xs → AllByRecursion (λ t. R (f x) t ≡ Less) (map f xs)
  below x [] h = tt
  below x (y ∷ xs) h = (h.0, below x xs h.1)

  pub sorted_images : (xs : List A) → IsStrictlySortedBy (on f R) xs → IsStrictlySortedBy R (map f xs)
  unfolding IsStrictlySortedBy
  sorted_images [] h = tt
  sorted_images (x ∷ xs) h = (below x xs h.0, sorted_images xs h.1)

  pub ascending_images : (xs : List A) → ascends (on f R) xs ≡ ascends R (map f xs)
  ascending_images [] = refl
  ascending_images (x ∷ []) = refl
  ascending_images (x ∷ y ∷ ys) = ap (λ b. is_lt (R (f x) (f y)) && b) (ascending_images (y ∷ ys))

  -- an item whose image a key ties with
  tied : (xs : List A) (q : B) → has_class R (map f xs) q ≡ true → (x : A) × (eq_by_cmp R q (f x) ≡ true)
  tied [] q h = cc
  tied (x ∷ xs) q h =
      elim (eq_by_cmp R q (f x)) as (λ b. eq_by_cmp R q (f x) ≡ b → (y : A) × (eq_by_cmp R q (f y) ≡ true)) [
        | true ↦ λ is. (x, is)
        | false ↦ λ is. tied xs q (rw (← h, is) refl)
      ] refl

module _ {A B : Type 0} (f : A → B) {R : B → B → Ordering} (o : IsTotalOrder R) where
  same_at : (xs ys : List A) → HaveSameClasses (on f R) xs ys → (q : B) (x : A) → eq_by_cmp R q (f x) ≡ true → has_class R (map f xs) q ≡ has_class R (map f ys) q
  same_at xs ys same q x t =
      has_alike o (map f xs) q (f x) t ∙ has_image f R xs x ∙ same x ∙ sym (has_image f R ys x) ∙ sym (has_alike o (map f ys) q (f x) t)

  same_images : (xs ys : List A) → HaveSameClasses (on f R) xs ys → HaveSameClasses R (map f xs) (map f ys)
  same_images xs ys same q =
      elim (has_class R (map f xs) q) as (λ b. has_class R (map f xs) q ≡ b → has_class R (map f xs) q ≡ has_class R (map f ys) q) [
        | true ↦ λ is. let x = tied f R xs q is in same_at xs ys same q x.0 x.1
        | false ↦ λ is.
            elim (has_class R (map f ys) q) as (λ b. has_class R (map f ys) q ≡ b → has_class R (map f xs) q ≡ has_class R (map f ys) q) [
              | true ↦ λ is'. let x = tied f R ys q is' in same_at xs ys same q x.0 x.1
              | false ↦ λ is'. is ∙ sym is'
            ] refl
      ] refl

  pub classes_of_images : (xs ys : List A) → IsClassesOf (on f R) xs ys → IsClassesOf R (map f xs) (map f ys)
  classes_of_images xs ys h = record {
    ascending = sorted_images f R xs h.ascending;
    same = same_images xs ys h.same;
    kept = λ t c. let x = origin f xs t c in subst (Contains (map f ys)) x.2 (image f ys x.0 (h.kept x.0 x.1));
  }
