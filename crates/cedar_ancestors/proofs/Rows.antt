-- Rows of indexes, filled key by key.
use Rattle.std.proofs.Common.{◌≡◌, ℕ, zero, suc, ◌+◌, ◌<◌, Bool, true, false, ◌||◌, ◌⊎◌, List, [], ◌∷◌, ◌++◌, length, get_or, take, Ordering, sym, refl, ap, ◌∙◌, subst, inl, inr, ⊎_elim, arith}
use Rattle.std.specs.Cmp.{IsTotalOrder, tied_back, Equal-is}
use Rattle.std.specs.Global.{Global}
use Rattle.std.specs.List.{Contains, IsDistinct}
use Rattle.std.specs.Ordering.{eq_by_cmp, is_eq}
use Rattle.std.specs.declared.cmp.Ordering.TheVariants.{Equal}
use Rattle.std.specs.declared.vec.Vec.{Vec}
use Rattle.std.proofs.lemmas.Bool.{or_cases, or_left, or_right, true≢false}
use Rattle.std.proofs.lemmas.List.{get_or_default}
use Rattle.std.proofs.lemmas.List.Elements.{Contains-append_left, Contains-push, Contains-push_cases}
use Rattle.std.proofs.lemmas.List.Folds.{list_any_at, list_any_more}
use borrow.Author.Count.{below_more}
use Rattle.cedar_sorted_slices.specs.Classes.{has_class}
use Rattle.cedar_ancestors.specs.Keyed.{IsAt, IsRowBy}
use Rattle.cedar_ancestors.specs.Tables.{row_at}
use Rattle.cedar_ancestors.proofs.Keys.{one_index}

module _ {K : Type 0} {R : K → K → Ordering} (o : IsTotalOrder R) where
  -- a key at an index, whatever stands past the end
  holds_at : (P : K → Type 0) (keys : List K) (j : ℕ) → j < length keys → ((d : K) → P (get_or keys j d)) → (k : K) × P k
  holds_at P [] j lt h = absurd (omega arith)
  holds_at P (k ∷ ks) j lt h = (get_or (k ∷ ks) j k, h k)

  -- no key passes a test that fails always
  pub no_indexes : (test : K → Bool) (keys : List K) → ((k : K) → test k ≡ false) → IsRowBy test keys []
  no_indexes test keys fails = record {
    same = λ j. (
      (λ h. absurd (omega (arith, h.1))),
      (λ h. let some = holds_at (λ k. test k ≡ true) keys j h.0 h.1 in absurd (true≢false (sym some.1 ∙ fails some.0))),
    );
  }

  module _ (keys : List K) (s : IsDistinct (eq_by_cmp R) keys) (parents : List K) (i : ℕ) (parent : K) (lt : i < length parents) (is : parent ≡ get_or parents i parent) (row : List ℕ) where
    class_more : (k : K) → has_class R (take (i + 1) parents) k ≡ (has_class R (take i parents) k || eq_by_cmp R k parent)
    class_more k = list_any_more (eq_by_cmp R k) parents i parent lt ∙ ap (λ (x : K). has_class R (take i parents) k || eq_by_cmp R k x) (sym is)

    class_kept : (k : K) → has_class R (take i parents) k ≡ true → has_class R (take (i + 1) parents) k ≡ true
    class_kept k h = class_more k ∙ or_left (has_class R (take i parents) k) (eq_by_cmp R k parent) h

    class_last : (k : K) → R k parent ≡ Equal → has_class R (take (i + 1) parents) k ≡ true
    class_last k h = class_more k ∙ or_right (has_class R (take i parents) k) (eq_by_cmp R k parent) (ap is_eq h)

    class_cases : (k : K) → has_class R (take (i + 1) parents) k ≡ true → (has_class R (take i parents) k ≡ true) ⊎ (R k parent ≡ Equal)
    class_cases k h = ⊎_elim inl (λ t. inr ((Equal-is (R k parent)).0 t)) (or_cases (has_class R (take i parents) k) (eq_by_cmp R k parent) (sym (class_more k) ∙ h))

    pub indexes_skip : has_class R keys parent ≡ false → IsRowBy (has_class R (take i parents)) keys row → IsRowBy (has_class R (take (i + 1) parents)) keys row
    indexes_skip absent r = record {
      same = λ j. (
        (λ h. let was = (r.same j).0 h in (was.0, λ e. class_kept (get_or keys j e) (was.1 e))),
        (λ h. (r.same j).1 (
          h.0,
          λ e. ⊎_elim
              (λ t. t)
              (λ t. absurd (true≢false (sym (list_any_at (eq_by_cmp R parent) keys j e h.0 (ap is_eq (tied_back o (get_or keys j e) parent t))) ∙ absent)))
              (class_cases (get_or keys j e) (h.1 e)),
        )),
      );
    }

    pub indexes_push : (n : ℕ) → IsAt R keys parent n → IsRowBy (has_class R (take i parents)) keys row → IsRowBy (has_class R (take (i + 1) parents)) keys (row ++ n ∷ [])
    indexes_push n at r = record {
      same = λ j. (
        (λ h. ⊎_elim
            (λ c. let was = (r.same j).0 c in (was.0, λ e. class_kept (get_or keys j e) (was.1 e)))
            (λ e. subst (λ (m : ℕ). (m < length keys) × ((f : K) → has_class R (take (i + 1) parents) (get_or keys m f) ≡ true)) e (at.0, λ f. class_last (get_or keys n f) (at.1 f)))
            (Contains-push_cases row n j h)),
        (λ h. ⊎_elim
            (λ t. Contains-append_left row (n ∷ []) j ((r.same j).1 (h.0, λ e. subst (λ (x : K). has_class R (take i parents) x ≡ true) (get_or_default keys j parent e h.0) t)))
            (λ t. subst (λ (m : ℕ). Contains (row ++ n ∷ []) m) (one_index o keys s parent n j at (h.0, λ e. subst (λ (x : K). R x parent ≡ Equal) (get_or_default keys j parent e h.0) t)) (Contains-push row n))
            (class_cases (get_or keys j parent) (h.1 parent))),
      );
    }

-- rows that were pushed so far
row_at_push : (rows : List (Vec ℕ Global)) (row : Vec ℕ Global) (n : ℕ) → length rows ≡ n → row_at (rows ++ row ∷ []) n ≡ row.items
row_at_push [] row zero e = refl
row_at_push [] row (suc n) e = absurd (omega arith)
row_at_push (first ∷ rows) row zero e = absurd (omega arith)
row_at_push (first ∷ rows) row (suc n) e = row_at_push rows row n (omega arith)

row_at_kept : (rows : List (Vec ℕ Global)) (row : Vec ℕ Global) (i : ℕ) → i < length rows → row_at (rows ++ row ∷ []) i ≡ row_at rows i
row_at_kept [] row i lt = absurd (omega arith)
row_at_kept (first ∷ rows) row zero lt = refl
row_at_kept (first ∷ rows) row (suc i) lt = row_at_kept rows row i (omega arith)

module _ (P : ℕ → List ℕ → Type 0) (rows : List (Vec ℕ Global)) (n : ℕ) (row : Vec ℕ Global) where
  pub rows_push : length rows ≡ n → ((i : ℕ) → i < n → P i (row_at rows i)) → P n row.items → (i : ℕ) → i < n + 1 → P i (row_at (rows ++ row ∷ []) i)
  rows_push e before last = below_more (λ (i : ℕ). P i (row_at (rows ++ row ∷ []) i)) n
      (λ i lt. subst (P i) (sym (row_at_kept rows row i (omega arith))) (before i lt))
      (subst (P n) (sym (row_at_push rows row n e)) last)
