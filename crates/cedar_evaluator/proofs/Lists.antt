-- The strictly ascending list that insertion makes, as the members of a set.
use Rattle.std.proofs.Common.{◌≡◌, Bool, true, ◌&&◌, List, [], ◌∷◌, ◌++◌, map, refl, sym, ap, ◌∙◌, ⊎_elim, arith}
use Rattle.std.proofs.lemmas.Bool.{and_parts}
use Rattle.std.proofs.lemmas.List.Elements.{All-nil, All-cons, All-contains, Contains-append_cases, Contains-append_left, Contains-append_right, Contains-push, Contains-push_cases}
use Rattle.std.specs.BTreeSet.{insert_key}
use Rattle.std.specs.Cmp.{IsTotalOrder, tied_itself}
use Rattle.std.specs.Cmp.Lexicographic.{slice_cmp}
use Rattle.std.specs.List.{All, AllByRecursion, Contains, list_all}
use Rattle.std.specs.List.Sorted.{IsStrictlySortedBy}
use Rattle.std.specs.Ordering.{match_ordering, on, ordering_then}
use Rattle.std.specs.declared.cmp.Ordering.{Ordering}
use Rattle.std.specs.declared.cmp.Ordering.TheVariants.{Less, Equal, Greater}
use Rattle.cedar_sorted_slices.specs.Classes.{IsClassesOf}
use Rattle.cedar_sorted_slices.specs.Unique.{same_classes_tie}
use Rattle.semantics_eval.specs.Rows.{ascending_list}

no_less : Less ≡ Equal → ⊥
no_less h = cc

first_ties : (a b : Ordering) → ordering_then a b ≡ Equal → a ≡ Equal
first_ties Less b h = h
first_ties Equal b h = refl
first_ties Greater b h = h

rest_ties : (a b : Ordering) → ordering_then a b ≡ Equal → b ≡ Equal
rest_ties Less b h = cc
rest_ties Equal b h = h
rest_ties Greater b h = cc

module _ {K : Type 0} (R : K → K → Ordering) where
  -- some items, each inserted into a list, from the last on
  abbrev pub inserted_from_last : List K → List K → List K
  inserted_from_last [] ks = ks
  inserted_from_last (x ∷ xs) ks = insert_key R (inserted_from_last xs ks) x

  -- the last one first
  pub last_first : (xs : List K) (x : K) (ks : List K)
      → inserted_from_last (xs ++ x ∷ []) ks ≡ inserted_from_last xs (insert_key R ks x)
  last_first [] x ks = refl
  last_first (y ∷ ys) x ks = ap (λ zs. insert_key R zs y) (last_first ys x ks)

  pub all_inserted : (xs : List K) → inserted_from_last xs [] ≡ ascending_list R xs
  all_inserted [] = refl
  all_inserted (x ∷ xs) = ap (λ ys. insert_key R ys x) (all_inserted xs)

  -- what is below all items becomes the first
  put_first : (x : K) (xs : List K) → AllByRecursion (λ y. R x y ≡ Less) xs
      → insert_key R xs x ≡ x ∷ xs
  put_first x [] h = refl
  put_first x (y ∷ ys) h =
      ap (λ r. match_ordering r (x ∷ y ∷ ys) (y ∷ ys) (y ∷ insert_key R ys x)) h.0

  -- a list that ascends strictly is kept
  pub kept_ascending : (xs : List K) → IsStrictlySortedBy R xs → xs ≡ ascending_list R xs
  unfolding IsStrictlySortedBy
  kept_ascending [] s = refl
  kept_ascending (x ∷ xs) s =
      sym (put_first x xs s.0) ∙ ap (λ ys. insert_key R ys x) (kept_ascending xs s.1)

  -- what holds of all items holds of those of the list
  kept_inserted : (P : K → Bool) (x : K) (ys : List K) → P x ≡ true → list_all P ys ≡ true
      → list_all P (insert_key R ys x) ≡ true
  kept_inserted P x [] p h = ap (λ b. b && true) p
  kept_inserted P x (y ∷ ys) p h =
      let parts = and_parts (P y) _ h in
      let rest = kept_inserted P x ys p parts.1 in
      elim (R x y) as (λ r. list_all P
      (match_ordering r (x ∷ y ∷ ys) (y ∷ ys) (y ∷ insert_key R ys x)) ≡ true) [
        | Less ↦ λ i. p i && h i
        | Equal ↦ h
        | Greater ↦ λ i. parts.0 i && rest i
      ]

  pub kept_list : (P : K → Bool) (xs : List K) → list_all P xs ≡ true
      → list_all P (ascending_list R xs) ≡ true
  kept_list P [] h = h
  kept_list P (x ∷ xs) h =
      let parts = and_parts (P x) _ h in
      kept_inserted P x (ascending_list R xs) parts.0 (kept_list P xs parts.1)

module _ {A B : Type 0} (f : A → B) (R : B → B → Ordering) where
  image_inserted : (x : A) (ys : List A)
      → map f (insert_key (on f R) ys x) ≡ insert_key R (map f ys) (f x)
  image_inserted x [] = refl
  image_inserted x (y ∷ ys) =
      let rest = image_inserted x ys in
      elim (R (f x) (f y)) as (λ r.
      map f (match_ordering r (x ∷ y ∷ ys) (y ∷ ys) (y ∷ insert_key (on f R) ys x))
      ≡ match_ordering r (f x ∷ f y ∷ map f ys) (f y ∷ map f ys)
      (f y ∷ insert_key R (map f ys) (f x))) [
        | Less ↦ refl
        | Equal ↦ refl
        | Greater ↦ ap (λ zs. f y ∷ zs) rest
      ]

  -- the list of some items, by what a function makes of them
  pub image_list : (xs : List A) → map f (ascending_list (on f R) xs) ≡ ascending_list R (map f xs)
  image_list [] = refl
  image_list (x ∷ xs) =
      image_inserted x (ascending_list (on f R) xs)
      ∙ ap (λ ys. insert_key R ys (f x)) (image_list xs)

module _ {K : Type 0} {R : K → K → Ordering} (o : IsTotalOrder R) where
  -- what ties with the first item is no later one
  no_later : (x y : K) (zs : List K) → R x y ≡ Equal → AllByRecursion (λ z. R y z ≡ Less) zs
      → All (λ z. R x z ≡ Equal → z ≡ y) zs
  no_later x y [] e h = All-nil (λ z. R x z ≡ Equal → z ≡ y)
  no_later x y (z ∷ zs) e h =
      All-cons (λ z. R x z ≡ Equal → z ≡ y) z zs (λ is. absurd (no_less (sym (o.congr x y z e ∙ h.0) ∙ is)))
      (no_later x y zs e h.1)

  first_is : (x y : K) (ys : List K) → R x y ≡ Equal → AllByRecursion (λ z. R y z ≡ Less) ys
      → Contains (y ∷ ys) x → x ≡ y
  first_is x y ys e h inside =
      All-contains (λ z. R x z ≡ Equal → z ≡ y) (y ∷ ys) x
      (All-cons (λ z. R x z ≡ Equal → z ≡ y) y ys (λ _. refl) (no_later x y ys e h))
      inside (tied_itself o x)

  each : (P : K → Type 0) (xs : List K) → AllByRecursion P xs → All P xs
  each P [] h = All-nil P
  each P (x ∷ xs) h = All-cons P x xs h.0 (each P xs h.1)

  -- an item behind the first is one of the other list's behind its first
  rest_inside : (x y z : K) (xs ys : List K) → R x y ≡ Equal
      → AllByRecursion (λ u. R x u ≡ Less) xs → Contains xs z → Contains (y ∷ ys) z
      → Contains ys z
  rest_inside x y z xs ys e h inside other =
      ⊎_elim
      (λ here. ⊎_elim (λ none. absurd (omega (arith, none.1)))
      (λ is. absurd (no_less (sym (All-contains (λ u. R x u ≡ Less) xs z (each (λ u. R x u ≡ Less) xs h) inside)
      ∙ ap (R x) (sym is) ∙ e)))
      (Contains-push_cases [] y z here))
      (λ later. later)
      (Contains-append_cases (y ∷ []) ys z other)

  by_items : (xs ys : List K) → IsStrictlySortedBy R xs → IsStrictlySortedBy R ys
      → slice_cmp R xs ys ≡ Equal → ((x : K) → Contains xs x → Contains ys x) → xs ≡ ys
  unfolding IsStrictlySortedBy
  by_items [] [] s t h k = refl
  by_items [] (y ∷ ys) s t h k = cc
  by_items (x ∷ xs) [] s t h k = cc
  by_items (x ∷ xs) (y ∷ ys) s t h k =
      let tie = first_ties (R x y) (slice_cmp R xs ys) h in
      let same = first_is x y ys tie t.0
      (k x (Contains-append_left (x ∷ []) xs x (Contains-push [] x))) in
      let rest = by_items xs ys s.1 t.1 (rest_ties (R x y) (slice_cmp R xs ys) h)
      (λ z inside. rest_inside x y z xs ys tie s.0 inside
      (k z (Contains-append_right (x ∷ []) xs z inside))) in
      λ i. same i ∷ rest i

  -- a list of the classes of one that ascends strictly is that list
  pub same_list : (xs ys : List K) → IsClassesOf R xs ys → IsStrictlySortedBy R ys → xs ≡ ys
  same_list xs ys c t =
      by_items xs ys c.ascending t (same_classes_tie o xs ys c.ascending t c.same) c.kept
