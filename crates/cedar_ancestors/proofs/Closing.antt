-- A list that is closed under the steps from its first part, and holds only what is reached.
use Rattle.std.proofs.Common.{◌≡◌, ℕ, zero, suc, ◌+◌, ◌<◌, ◌≤◌, List, [], ◌∷◌, ◌++◌, length, get_or, sym, refl, ap, ◌∙◌, subst, inl, inr, ⊎_elim, arith}
use Rattle.std.specs.List.{All, Contains}
use Rattle.std.specs.Global.{Global}
use Rattle.std.specs.declared.vec.Vec.{Vec}
use Rattle.std.proofs.lemmas.List.{get_or_default, get_or_read, get_or_append_left, get_or_push}
use Rattle.std.proofs.lemmas.List.Sorted.{Contains-permutation, IsPermutation-sym}
use Rattle.std.proofs.lemmas.Bool.{cases_lt}
use Rattle.std.specs.List.Sorted.{IsNonDecreasing, IsPermutation}
use borrow.Author.Count.{below_more}
use Rattle.cedar_ancestors.specs.Marks.{IsAdded}
use Rattle.cedar_ancestors.specs.Reaching.{Reaches-trans, Reaches, one, more}
use Rattle.cedar_ancestors.specs.Tables.{row_at, IsInRow, IsWithin, IsAbove, HasAllAbove, IsAcyclic, IsClosureOf, AllAscend}

pub row_at_is : (table : List (Vec ℕ Global)) (i : ℕ) (d : Vec ℕ Global) → i < length table → row_at table i ≡ (get_or table i d).items
row_at_is [] i d lt = absurd (omega arith)
row_at_is (row ∷ rows) zero d lt = refl
row_at_is (row ∷ rows) (suc i) d lt = row_at_is rows i d (omega arith)

pub record IsClosing (R : ℕ → ℕ → Type 0) (x next : ℕ) (found : List ℕ) : Type 0 where
  pub first : (y : ℕ) → R x y → Contains found y
  pub closed : (j : ℕ) → j < next → (y : ℕ) → R (get_or found j 0) y → Contains found y
  pub sound : (y : ℕ) → Contains found y → Reaches R x y

module _ (table : List (Vec ℕ Global)) (x : ℕ) where
  pub closing_none : (found : List ℕ) → IsAdded (row_at table x) [] found → IsClosing (IsInRow table) x 0 found
  closing_none found a = record {
    first = λ y r. (a.same y).1 (inr r);
    closed = λ j lt. absurd (omega arith);
    sound = λ y h. ⊎_elim (λ b. absurd (omega (arith, b.1))) (λ r. one r) ((a.same y).0 h);
  }

  pub closing_more : (found after : List ℕ) (next node : ℕ) → next < length found → node ≡ get_or found next node → IsAdded (row_at table node) found after → IsClosing (IsInRow table) x next found → IsClosing (IsInRow table) x (next + 1) after
  closing_more found after next node lt is a c =
      let at : node ≡ get_or found next 0 = get_or_read found next node lt is 0 in
      record {
        first = λ y r. (a.same y).1 (inl (c.first y r));
        closed = below_more (λ (j : ℕ). (y : ℕ) → IsInRow table (get_or after j 0) y → Contains after y) next
            (λ j h y r. (a.same y).1 (inl (c.closed j h y (subst (λ (i : ℕ). IsInRow table i y) (a.kept j (omega arith)) r))))
            (λ y r. (a.same y).1 (inr (subst (λ (i : ℕ). IsInRow table i y) (a.kept next lt ∙ sym at) r)));
        sound = λ y h. ⊎_elim (c.sound y) (λ r. Reaches-trans (c.sound node (next, lt, sym is)) (one r)) ((a.same y).0 h);
      }

module _ {R : ℕ → ℕ → Type 0} {x next : ℕ} {found : List ℕ} (c : IsClosing R x next found) (all : length found ≤ next) where
  step : {y z : ℕ} → Contains found y → R y z → Contains found z
  step {y} {z} h r = c.closed h.0 (omega (arith, h.1)) z (subst (λ (i : ℕ). R i z) (sym (get_or_default found h.0 0 y h.1 ∙ h.2)) r)

  follow : {y z : ℕ} → Contains found y → Reaches R y z → Contains found z
  follow h (one r) = step h r
  follow h (more r p) = follow (step h r) p

  reached : {z : ℕ} → Reaches R x z → Contains found z
  reached (one r) = c.first _ r
  reached (more r p) = follow (c.first _ r) p

pub closing_all : (table : List (Vec ℕ Global)) (x next : ℕ) (found : List ℕ) → length found ≤ next → IsClosing (IsInRow table) x next found → HasAllAbove table x found
closing_all table x next found all c = λ y. (c.sound y, reached c all)

-- a row as code reads it
module _ (table : List (Vec ℕ Global)) (i : ℕ) (row : Vec ℕ Global) (items : List ℕ) (lt : i < length table) (is : row ≡ get_or table i row) (read : items ≡ row.items) where
  pub row_is : items ≡ row_at table i
  row_is = read ∙ ap (λ (v : Vec ℕ Global). v.items) is ∙ sym (row_at_is table i row lt)

  pub row_added : (before after : List ℕ) → IsAdded items before after → IsAdded (row_at table i) before after
  row_added before after a = subst (λ (xs : List ℕ). IsAdded xs before after) row_is a

  pub row_within : (n : ℕ) → n ≡ length table → IsWithin table → All (λ (k : ℕ). k < n) items
  row_within n e w = subst (λ (xs : List ℕ). All (λ (k : ℕ). k < n) xs) (sym (read ∙ ap (λ (v : Vec ℕ Global). v.items) is))
      (λ k d h. subst (λ (m : ℕ). get_or (get_or table i row).items k d < m) (sym e) (w i row lt k d h))

-- a row in another order has the same indexes
pub all_in_any_order : (table : List (Vec ℕ Global)) (x : ℕ) (found row : List ℕ) → IsPermutation found row → HasAllAbove table x found → HasAllAbove table x row
all_in_any_order table x found row same all y = (
  (λ h. (all y).0 (Contains-permutation row found y (IsPermutation-sym found row same) h)),
  (λ h. Contains-permutation found row y same ((all y).1 h)),
)

-- the rows that were closed so far
pub record IsClosed (table : List (Vec ℕ Global)) (x : ℕ) (row : List ℕ) : Type 0 where
  pub all : HasAllAbove table x row
  pub ascending : IsNonDecreasing row
  pub acyclic : IsAbove table x x → ⊥

abbrev pub AreClosed : List (Vec ℕ Global) → ℕ → List (Vec ℕ Global) → Type 0
AreClosed table n rows = (k : ℕ) → k < n → (d : Vec ℕ Global) → IsClosed table k (get_or rows k d).items

pub AreClosed-none : (table rows : List (Vec ℕ Global)) → AreClosed table 0 rows
AreClosed-none table rows k lt = absurd (omega arith)

pub AreClosed-push : (table rows : List (Vec ℕ Global)) (n : ℕ) (row : Vec ℕ Global) → length rows ≡ n → AreClosed table n rows → IsClosed table n row.items → AreClosed table (n + 1) (rows ++ row ∷ [])
AreClosed-push table rows n row e c last =
    below_more (λ (k : ℕ). (d : Vec ℕ Global) → IsClosed table k (get_or (rows ++ row ∷ []) k d).items) n
    (λ k h d. subst (λ (v : Vec ℕ Global). IsClosed table k v.items) (sym (get_or_append_left rows (row ∷ []) d k (omega arith))) (c k h d))
    (λ d. subst (λ (v : Vec ℕ Global). IsClosed table n v.items) (sym (get_or_push rows row d n e)) last)

pub row_past : (table : List (Vec ℕ Global)) (x : ℕ) → length table ≤ x → row_at table x ≡ []
row_past [] x le = refl
row_past (row ∷ rows) zero le = absurd (omega arith)
row_past (row ∷ rows) (suc x) le = row_past rows x (omega arith)

pub none_past : (table : List (Vec ℕ Global)) (x y : ℕ) → length table ≤ x → IsInRow table x y → ⊥
none_past table x y le h = omega (arith, (subst (λ (xs : List ℕ). Contains xs y) (row_past table x le) h).1)

pub none_above_past : (table : List (Vec ℕ Global)) {x y : ℕ} → length table ≤ x → IsAbove table x y → ⊥
none_above_past table {x} {y} le (one r) = none_past table x y le r
none_above_past table {x} le (more {y = z} r p) = none_past table x z le r

by_row : (P : ℕ → List ℕ → Type 0) (rows : List (Vec ℕ Global)) → ((k : ℕ) → k < length rows → (d : Vec ℕ Global) → P k (get_or rows k d).items) → (k : ℕ) → k < length rows → P k (row_at rows k)
by_row P [] h k lt = absurd (omega arith)
by_row P (row ∷ rows) h zero lt = h 0 lt row
by_row P (row ∷ rows) h (suc k) lt = by_row (λ j. P (suc j)) rows (λ j l d. h (suc j) (omega arith) d) k (omega arith)

module _ (table rows : List (Vec ℕ Global)) (n : ℕ) (same : length rows ≡ n) (all : n ≡ length table) (c : AreClosed table n rows) where
  at_row : (x : ℕ) → x < length table → IsClosed table x (row_at rows x)
  at_row x lt = by_row (IsClosed table) rows (λ k l. c k (omega arith)) x (omega arith)

  pub closed_is_closure : IsClosureOf table rows
  closed_is_closure x y = ⊎_elim
      (λ (lt : x < length table). (at_row x lt).all y)
      (λ (le : length table ≤ x). ((λ h. absurd (none_past rows x y (omega arith) h)), (λ h. absurd (none_above_past table le h))))
      (cases_lt x (length table))

  pub closed_is_acyclic : IsAcyclic table
  closed_is_acyclic x h = ⊎_elim
      (λ (lt : x < length table). (at_row x lt).acyclic h)
      (λ (le : length table ≤ x). none_above_past table le h)
      (cases_lt x (length table))

  pub closed_ascend : AllAscend rows
  closed_ascend k d lt = (c k (omega arith) d).ascending

pub row_ascends : (rows : List (Vec ℕ Global)) → AllAscend rows → (x : ℕ) → IsNonDecreasing (row_at rows x)
row_ascends [] h x = λ i j d le lt. absurd (omega arith)
row_ascends (row ∷ rows) h zero = h 0 row (omega arith)
row_ascends (row ∷ rows) h (suc x) = row_ascends rows (λ k d lt. h (suc k) d (omega arith)) x
