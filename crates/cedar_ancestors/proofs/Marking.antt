-- How marks and lists change where one item is added.
use Rattle.std.proofs.Common.{◌≡◌, ◌≢◌, ℕ, ◌+◌, ◌<◌, ◌≤◌, ◌⊎◌, Bool, true, false, cond, List, [], ◌∷◌, ◌++◌, length, get_or, set, take, drop, sym, refl, ap, ◌∙◌, subst, inl, inr, ⊎_elim, arith}
use Rattle.std.specs.List.{Contains}
use Rattle.std.proofs.lemmas.Bool.{cases_eq, cases_lt, true≢false, false_from_ne_true}
use Rattle.std.proofs.lemmas.List.{get_or-set_same, get_or-set_other, get_or_past, get_or_append_left, get_or_default, length_push, take_more, drop_all}
use Rattle.std.proofs.lemmas.List.Elements.{Contains-append_left, Contains-push, Contains-push_cases}
use Rattle.std.proofs.lemmas.List.Sums.{sum_by-set, sum_by-le}
use Rattle.cedar_ancestors.specs.Marks.{IsMarked, IsAdded}

abbrev one : Bool → ℕ
one b = cond b 1 0

pub IsMarked-push : (seen : List Bool) (found : List ℕ) (k : ℕ) → IsMarked seen found → k < length seen → get_or seen k false ≡ false → IsMarked (set seen k true) (found ++ k ∷ [])
IsMarked-push seen found k m lt unseen = record {
  marked = λ j. ⊎_elim
      (λ (e : j ≡ k). (
        (λ _. subst (λ (i : ℕ). Contains (found ++ k ∷ []) i) (sym e) (Contains-push found k)),
        (λ _. ap (λ (i : ℕ). get_or (set seen k true) i false) e ∙ get_or-set_same seen k true false lt),
      ))
      (λ (ne : j ≢ k). (
        (λ h. Contains-append_left found (k ∷ []) j ((m.marked j).0 (sym (get_or-set_other seen k j true false ne) ∙ h))),
        (λ h. get_or-set_other seen k j true false ne ∙ ⊎_elim (m.marked j).1 (λ e. absurd (ne (sym e))) (Contains-push_cases found k j h)),
      ))
      (cases_eq j k);
  counted = omega (arith, sum_by-set one seen k true false lt, ap one unseen, m.counted, length_push found k);
}

-- what is marked is within the marks, and no more was found than there are marks
pub found_within : (seen : List Bool) (found : List ℕ) → IsMarked seen found → (k : ℕ) → Contains found k → k < length seen
found_within seen found m k h =
    ⊎_elim
    (λ (lt : k < length seen). lt)
    (λ (past : length seen ≤ k). absurd (true≢false (sym ((m.marked k).1 h) ∙ get_or_past seen k false past)))
    (cases_lt k (length seen))

pub item_within : (seen : List Bool) (found : List ℕ) (n i item : ℕ) → length seen ≡ n → IsMarked seen found → i < length found → item ≡ get_or found i item → item < n
item_within seen found n i item long m lt is = omega (arith, found_within seen found m item (i, lt, sym is))

take_cases : (items : List ℕ) (i k : ℕ) → i < length items → Contains (take (i + 1) items) k → Contains (take i items) k ⊎ (get_or items i 0 ≡ k)
take_cases items i k lt h = Contains-push_cases (take i items) (get_or items i 0) k (subst (λ (xs : List ℕ). Contains xs k) (take_more items i 0 lt) h)

take_left : (items : List ℕ) (i k : ℕ) → i < length items → Contains (take i items) k → Contains (take (i + 1) items) k
take_left items i k lt h = subst (λ (xs : List ℕ). Contains xs k) (sym (take_more items i 0 lt)) (Contains-append_left (take i items) (get_or items i 0 ∷ []) k h)

take_last : (items : List ℕ) (i : ℕ) → i < length items → Contains (take (i + 1) items) (get_or items i 0)
take_last items i lt = subst (λ (xs : List ℕ). Contains xs (get_or items i 0)) (sym (take_more items i 0 lt)) (Contains-push (take i items) (get_or items i 0))

pub IsAdded-none : (before : List ℕ) → IsAdded [] before before
IsAdded-none before = record {
  longer = omega arith;
  kept = λ _ _. refl;
  same = λ k. (inl, ⊎_elim (λ h. h) (λ h. absurd (omega (arith, h.1))));
}

module _ (items before after : List ℕ) (i : ℕ) (lt : i < length items) where
  pub IsAdded-skip : Contains after (get_or items i 0) → IsAdded (take i items) before after → IsAdded (take (i + 1) items) before after
  IsAdded-skip is a = record {
    longer = a.longer;
    kept = a.kept;
    same = λ k. (
      (λ h. ⊎_elim inl (λ c. inr (take_left items i k lt c)) ((a.same k).0 h)),
      ⊎_elim
          (λ b. (a.same k).1 (inl b))
          (λ c. ⊎_elim (λ c. (a.same k).1 (inr c)) (λ e. subst (λ (x : ℕ). Contains after x) e is) (take_cases items i k lt c)),
    );
  }

  pub IsAdded-push : IsAdded (take i items) before after → IsAdded (take (i + 1) items) before (after ++ get_or items i 0 ∷ [])
  IsAdded-push a =
      let x : ℕ = get_or items i 0 in
      record {
        longer = omega (arith, a.longer, length_push after x);
        kept = λ k h. get_or_append_left after (x ∷ []) 0 k (omega (arith, a.longer, h)) ∙ a.kept k h;
        same = λ k. (
          (λ h. ⊎_elim
              (λ h. ⊎_elim inl (λ c. inr (take_left items i k lt c)) ((a.same k).0 h))
              (λ e. inr (subst (λ (y : ℕ). Contains (take (i + 1) items) y) e (take_last items i lt)))
              (Contains-push_cases after x k h)),
          ⊎_elim
              (λ b. Contains-append_left after (x ∷ []) k ((a.same k).1 (inl b)))
              (λ c. ⊎_elim
              (λ c. Contains-append_left after (x ∷ []) k ((a.same k).1 (inr c)))
              (λ e. subst (λ (y : ℕ). Contains (after ++ x ∷ []) y) e (Contains-push after x))
              (take_cases items i k lt c)),
        );
      }

-- marks of which none is left
pub IsMarked-none : (seen : List Bool) (found : List ℕ) (n : ℕ) → length found ≤ n → ((k : ℕ) → get_or seen k false ≡ true → Contains (drop n found) k) → IsMarked seen []
IsMarked-none seen found n past left =
    let none : (k : ℕ) → get_or seen k false ≡ true → ⊥ = λ k h. absurd (omega (arith, (subst (λ (xs : List ℕ). Contains xs k) (drop_all n found past) (left k h)).1)) in
    record {
      marked = λ k. ((λ h. absurd (none k h)), (λ h. absurd (omega (arith, h.1))));
      counted = omega (
        arith,
        sum_by-le one 0 seen
            (λ k d lt. subst (λ (b : Bool). cond b 1 0 ≤ 0) (sym (false_from_ne_true (get_or seen k false) (none k)) ∙ get_or_default seen k false d lt) (omega arith)),
      );
    }
