-- Indexes of keys, and the steps between keys as steps between indexes.
use Rattle.std.proofs.Common.{◌≡◌, ◌↔◌, ℕ, zero, suc, ◌<◌, Bool, true, false, ◌||◌, List, [], ◌∷◌, length, get_or, IsTrue, Option, Some, None, Ordering, Result, Ok, Err, IfOk, IfSome, OnOk, sym, refl, ap, ◌∙◌, subst, ⊎_elim, arith}
use Rattle.std.specs.Cmp.{IsTotalOrder, tied_back, tied_itself, Equal-is}
use Rattle.std.specs.Global.{Global}
use Rattle.std.specs.List.{Contains, IsDistinct, list_any, position}
use Rattle.std.specs.Map.{lookup}
use Rattle.std.specs.Ordering.{eq_by_cmp, is_eq}
use Rattle.std.specs.declared.cmp.Ordering.TheVariants.{Equal}
use Rattle.std.specs.declared.vec.Vec.{Vec}
use Rattle.std.proofs.lemmas.Bool.{cases_order, true≢false}
use Rattle.std.proofs.lemmas.List.{get_or_default}
use Rattle.std.proofs.lemmas.List.Quantifiers.{position-Some}
use Rattle.std.proofs.lemmas.Map.Keys.{apart_from_distinct}
use Rattle.std.proofs.lemmas.List.Elements.{Contains-get_or}
use Rattle.std.proofs.lemmas.List.Folds.{list_any_at}
use Rattle.cedar_ancestors.proofs.Closing.{row_at_is}
use Rattle.cedar_sorted_slices.specs.Classes.{has_class}
use Rattle.cedar_ancestors.specs.Keyed.{IsAt, entry_at, is_listed, lists, IsParentOf, IsAncestorOf, AreKnown, IsTableOf, IsBelowIn}
use Rattle.cedar_ancestors.specs.Reaching.{one, more}
use Rattle.cedar_ancestors.specs.Tables.{row_at, IsInRow, IsAbove, IsAcyclic, IsWithin}
use Rattle.cedar_ancestors.specs.Reach.{leads, IsReachOf, IsCyclicIn}
use Rattle.cedar_ancestors.specs.Hierarchies.{IsCyclicAmong}
use Rattle.cedar_ancestors.specs.declared.keyed.Cyclic.{Cyclic}
use Rattle.cedar_ancestors.specs.declared.keyed.Cyclic.TheVariants.{At, Memory}
use Rattle.cedar_ancestors.specs.declared.reach.Reach.{Reach}

module _ {K : Type 0} {R : K → K → Ordering} (o : IsTotalOrder R) where
  tied_both : {x y z : K} → R x z ≡ Equal → R y z ≡ Equal → R x y ≡ Equal
  tied_both {x} {y} {z} p q = o.congr x z y p ∙ tied_back o y z q

  -- one key has one index among distinct keys
  not_before : (keys : List K) → IsDistinct (eq_by_cmp R) keys → (k : K) (i j : ℕ) → IsAt R keys k i → IsAt R keys k j → i < j → ⊥
  not_before keys s k i j a b lt = true≢false (sym (ap is_eq (tied_both (a.1 k) (b.1 k))) ∙ apart_from_distinct (eq_by_cmp R) keys i j k s lt b.0)

  pub one_index : (keys : List K) → IsDistinct (eq_by_cmp R) keys → (k : K) (i j : ℕ) → IsAt R keys k i → IsAt R keys k j → i ≡ j
  one_index keys s k i j a b = ⊎_elim
      (λ e. e)
      (⊎_elim
      (λ lt. absurd (not_before keys s k i j a b lt))
      (λ lt. absurd (not_before keys s k j i b a lt)))
      (cases_order i j)

  pub at_itself : (keys : List K) (i : ℕ) (d : K) → i < length keys → IsAt R keys (get_or keys i d) i
  at_itself keys i d lt = (lt, λ e. subst (λ (x : K). R x (get_or keys i d) ≡ Equal) (get_or_default keys i d e lt) (tied_itself o (get_or keys i d)))

  pub index_from_class : (keys : List K) (q : K) → has_class R keys q ≡ true → (i : ℕ) × IsAt R keys q i
  index_from_class [] q h = absurd (true≢false (sym h))
  index_from_class (k ∷ ks) q h =
      elim (eq_by_cmp R q k) as (λ b. eq_by_cmp R q k ≡ b → (b || has_class R ks q) ≡ true → (i : ℕ) × IsAt R (k ∷ ks) q i) [
        | true ↦ λ e _. (zero, (omega arith, λ _. tied_back o q k ((Equal-is (R q k)).0 e)))
        | false ↦ λ _ r. let found = index_from_class ks q r in (suc found.0, (omega (arith, found.1.0), found.1.1))
      ] refl h

  -- keys that compare as equal have the same parents, and are parents of the same
  pub class_alike : (xs : List K) (x y : K) → R x y ≡ Equal → has_class R xs x ≡ has_class R xs y
  class_alike xs x y e = λ i. list_any (λ (k : K). is_eq (o.congr x y k e i)) xs

module _ {K V : Type 0} {R : K → K → Ordering} (o : IsTotalOrder R) (P : V → List K) where
  get_alike : (m : List (K × V)) (x y : K) → R x y ≡ Equal → entry_at R m x ≡ entry_at R m y
  get_alike m x y e = λ i. lookup (λ (k : K). is_eq (o.congr x y k e i)) m

  listed_alike : (ps : Option V) (x y : K) → R x y ≡ Equal → is_listed R P ps x ≡ is_listed R P ps y
  listed_alike None x y e = refl
  listed_alike (Some v) x y e = class_alike o (P v) x y e

  lists_alike : (m : List (K × V)) (a b x y : K) → R x a ≡ Equal → R y b ≡ Equal → lists R P m x y ≡ lists R P m a b
  lists_alike m a b x y p q = ap (λ (ps : Option V). is_listed R P ps y) (get_alike m x a p) ∙ listed_alike (entry_at R m a) y b q

  module _ (keys : List K) (m : List (K × V)) (table : List (Vec ℕ Global)) (t : IsTableOf R P keys m table) where
    -- a step between indexes is a step between their keys
    step_from : (a : K) (i j : ℕ) → IsAt R keys a i → IsInRow table i j → (j < length keys) × ((b : K) → IsAt R keys b j → IsParentOf R P m a b)
    step_from a i j at r =
        let row = ((t.rows i at.0 a).same j).0 r in
        (row.0, λ b bt. sym (lists_alike m a b (get_or keys i a) (get_or keys j a) (at.1 a) (bt.1 a)) ∙ row.1 a)

    step_to : (a b : K) (i j : ℕ) → IsAt R keys a i → IsAt R keys b j → IsParentOf R P m a b → IsInRow table i j
    step_to a b i j at bt p = ((t.rows i at.0 a).same j).1 (bt.0, λ d. lists_alike m a b (get_or keys i a) (get_or keys j d) (at.1 a) (bt.1 d) ∙ p)

    pub keys_above : (a b : K) {i j : ℕ} → IsAt R keys a i → IsAt R keys b j → IsAbove table i j → IsAncestorOf R P m a b
    keys_above a b {i} {j} at bt (one r) = one ((step_from a i j at r).1 b bt)
    keys_above a b {i} at bt (more {y = k} r p) =
        let s = step_from a i k at r in
        let kt = at_itself o keys k a s.0 in
        more (s.1 (get_or keys k a) kt) (keys_above (get_or keys k a) b kt bt p)

    module _ (known : AreKnown R P keys m) where
      first_known : {a b : K} → IsAncestorOf R P m a b → (i : ℕ) × IsAt R keys a i
      first_known {a} (one {y = b} r) = index_from_class o keys a (known a b r).0
      first_known {a} (more {y = b} r p) = index_from_class o keys a (known a b r).0

      indexes_above : {a b : K} (i : ℕ) → IsAt R keys a i → IsAncestorOf R P m a b → (j : ℕ) × IsAt R keys b j × IsAbove table i j
      indexes_above {a} {b} i at (one r) =
          let found = index_from_class o keys b (known a b r).1 in
          (found.0, found.1, one (step_to a b i found.0 at found.1 r))
      indexes_above {a} i at (more {y = k} r p) =
          let found = index_from_class o keys k (known a k r).1 in
          let rest = indexes_above found.0 found.1 p in
          (rest.0, rest.1, more (step_to a k i found.0 at found.1 r) rest.2)

      pub reach_of_keys : (r : Reach) → IsReachOf table r → (a b : K) → IsBelowIn R (keys, r) a b ↔ IsAncestorOf R P m a b
      reach_of_keys r c a b = (
        (λ h. keys_above a b h.child_at h.ancestor_at ((c h.from h.to).0 h.has)),
        (λ h.
            let first = first_known h in
            let last = indexes_above first.0 first.1 h in
            record { from = first.0; to = last.0; child_at = first.1; ancestor_at = last.1; has = (c first.0 last.0).1 last.2 }),
      )

      pub keys_acyclic : IsDistinct (eq_by_cmp R) keys → IsAcyclic table → (a : K) → IsAncestorOf R P m a a → ⊥
      keys_acyclic s acyclic a h =
          let first = first_known h in
          let last = indexes_above first.0 first.1 h in
          acyclic first.0 (subst (λ (j : ℕ). IsAbove table first.0 j) (sym (one_index o keys s a first.0 last.0 first.1 last.1)) last.2)

      -- an index that is above itself is that of a key that is its own ancestor
      pub cyclic_among : (e : Cyclic ℕ) → IsCyclicIn table e → IsCyclicAmong R P m keys e
      cyclic_among (At i) h = (omega (arith, h.0, t.long), λ k at. keys_above k k at at h.1)
      cyclic_among Memory h = tt

-- what a search for both keys says
module _ {K : Type 0} {R : K → K → Ordering} (o : IsTotalOrder R) where
  module _ (h : List K × Reach) (child ancestor : K) where
    pub below_at : IsDistinct (eq_by_cmp R) h.0 → (i j : ℕ) → IsAt R h.0 child i → IsAt R h.0 ancestor j → (b : Bool) → IsTrue b ↔ leads h.1 i j → IsTrue b ↔ IsBelowIn R h child ancestor
    below_at s i j at bt b has = (
      (λ t. record { from = i; to = j; child_at = at; ancestor_at = bt; has = has.0 t }),
      (λ r. has.1 (subst (λ (n : ℕ). leads h.1 n j) (one_index o h.0 s child r.from i r.child_at at) (subst (λ (n : ℕ). leads h.1 r.from n) (one_index o h.0 s ancestor r.to j r.ancestor_at bt) r.has))),
    )

    class_from_index : (q : K) (i : ℕ) → IsAt R h.0 q i → has_class R h.0 q ≡ true
    class_from_index q i at = list_any_at (eq_by_cmp R q) h.0 i q at.0 (ap is_eq (tied_back o (get_or h.0 i q) q (at.1 q)))

    pub below_no_child : has_class R h.0 child ≡ false → IsTrue false ↔ IsBelowIn R h child ancestor
    below_no_child absent = ((λ t. absurd (true≢false (sym t))), (λ r. absurd (true≢false (sym (class_from_index child r.from r.child_at) ∙ absent))))

    pub below_no_ancestor : has_class R h.0 ancestor ≡ false → IsTrue false ↔ IsBelowIn R h child ancestor
    below_no_ancestor absent = ((λ t. absurd (true≢false (sym t))), (λ r. absurd (true≢false (sym (class_from_index ancestor r.to r.ancestor_at) ∙ absent))))

module _ {K V : Type 0} {R : K → K → Ordering} (o : IsTotalOrder R) (P : V → List K) where
  pub known_alike : (keys all : List K) (m : List (K × V)) → ((q : K) → has_class R keys q ≡ has_class R all q) → AreKnown R P all m → AreKnown R P keys m
  known_alike keys all m same known child parent h =
      let both = known child parent h in
      (same child ∙ both.0, same parent ∙ both.1)

  some_key : (keys : List K) (i : ℕ) → i < length keys → K
  some_key [] i lt = absurd (omega arith)
  some_key (k ∷ ks) i lt = k

  pub table_within : (keys : List K) (m : List (K × V)) (table : List (Vec ℕ Global)) → IsTableOf R P keys m table → IsWithin table
  table_within keys m table t i row lt j d h =
      let inside : i < length keys = omega (arith, t.long) in
      let items = (get_or table i row).items in
      let is : Contains (row_at table i) (get_or items j d) = subst (λ (xs : List ℕ). Contains xs (get_or items j d)) (sym (row_at_is table i row lt)) (Contains-get_or items j d h) in
      omega (arith, t.long, (((t.rows i inside (some_key keys i inside)).same (get_or items j d)).0 is).0)

-- an entry by an equality that ties as the order does
pub entry_by : {K V : Type 0} (R : K → K → Ordering) (E : K → K → Bool)
    → ((x y : K) → E x y ≡ eq_by_cmp R x y) → (m : List (K × V)) (k : K)
    → lookup (E k) m ≡ entry_at R m k
entry_by R E same m k = λ i. lookup (λ x. same k x i) m

module _ {K : Type 0} (R : K → K → Ordering) (E : K → K → Bool)
    (same : (x y : K) → E x y ≡ eq_by_cmp R x y) where
  -- keys that are distinct by that equality are so by the order
  pub distinct_by : (keys : List K) → IsDistinct E keys → IsDistinct (eq_by_cmp R) keys
  distinct_by keys = subst (λ e. IsDistinct e keys) (λ i x y. same x y i)

  -- and a key is there by both
  pub class_by : (keys : List K) (k : K) → list_any (E k) keys ≡ has_class R keys k
  class_by keys k = λ i. list_any (λ x. same k x i) keys

  -- the first key that is equal
  pub first_at : IsTotalOrder R → (keys : List K) (k : K) (r : Option ℕ) → r ≡ position (E k) keys → IfSome r (IsAt R keys k)
  first_at o keys k None e = tt
  first_at o keys k (Some i) e = (
    (position-Some (E k) keys i k (sym e)).0,
    λ d. tied_back o k (get_or keys i d) ((Equal-is (R k (get_or keys i d))).0 (sym (same k (get_or keys i d)) ∙ (position-Some (E k) keys i d (sym e)).1)),
  )

-- what leads on is in the table
pub in_row_inside : (table : List (Vec ℕ Global)) (x y : ℕ) → IsInRow table x y → x < length table
in_row_inside [] x y h = absurd (omega (arith, h.1))
in_row_inside (row ∷ rows) zero y h = omega arith
in_row_inside (row ∷ rows) (suc x) y h = let below = in_row_inside rows x y h in omega (arith, below)

pub above_inside : (table : List (Vec ℕ Global)) (x y : ℕ) → IsAbove table x y → x < length table
above_inside table x y (one r) = in_row_inside table x _ r
above_inside table x y (more r p) = in_row_inside table x _ r

-- what is said of a result, said otherwise
pub if_ok_map : {A E : Type 0} {P Q : A → Type 0} (r : Result A E) → ((a : A) → P a → Q a)
    → IfOk r P → IfOk r Q
if_ok_map (Ok a) f h = f a h
if_ok_map (Err e) f h = h

pub on_ok : {A E Y Z : Type 0} (r : Result A E) → (Y → Z) → OnOk r Y → OnOk r Z
on_ok (Ok a) f h = f h
on_ok (Err e) f h = h
