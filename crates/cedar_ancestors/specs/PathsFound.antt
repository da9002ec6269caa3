-- There is a path just where a key is an ancestor.
use Rattle.std.specs.Prelude.{◌≡◌, ◌↔◌, ◌⊎◌, Bool, true, false, ◌||◌, ◌&&◌, IsTrue, List, [], ◌∷◌, map, Option, Some, None}
use Rattle.std.proofs.Common.{cond, refl, sym, ap, ◌∙◌, ⊎_elim, inl, inr}
use Rattle.std.specs.Cmp.{IsTotalOrder, tied_itself, Equal-is}
use Rattle.std.specs.Ordering.{eq_by_cmp}
use Rattle.std.specs.declared.cmp.Ordering.{Ordering}
use Rattle.std.specs.declared.cmp.Ordering.TheVariants.{Equal}
use Rattle.std.proofs.lemmas.Bool.{or_cases, true≢false}
use Rattle.cedar_sorted_slices.specs.Classes.{has_class}
use Rattle.cedar_ancestors.specs.Reaching.{one, more, Reaches-trans}
use Rattle.cedar_ancestors.specs.Keyed.{entry_at, is_listed, lists, IsAncestorOf}
use Rattle.cedar_ancestors.specs.Paths.{has_path, is_ancestor}
use Rattle.cedar_ancestors.specs.Stores.{HasEntry}
use Rattle.cedar_ancestors.specs.Ties.{tied_lists}

-- by one of two ways, of which the second has two parts
by_first : (a b c : Bool) → a ≡ true → (a || (b && c)) ≡ true
by_first true b c h = refl
by_first false b c h = absurd (true≢false (sym h))

by_second : (a b c : Bool) → b ≡ true → c ≡ true → (a || (b && c)) ≡ true
by_second true b c h l = refl
by_second false true c h l = l
by_second false false c h l = h

which : (a b c : Bool) → (a || (b && c)) ≡ true → (a ≡ true) ⊎ ((b ≡ true) × (c ≡ true))
which true b c h = inl refl
which false true c h = inr (refl, h)
which false false c h = absurd (true≢false (sym h))

module _ {K V : Type 0} {R : K → K → Ordering} (o : IsTotalOrder R) (P : V → List K)
    (m : List (K × V)) where
  abbrev path : List K → K → K → Bool
  path = has_path R P m

  tied_path : (ks : List K) (x y a b : K) → R x a ≡ Equal → R y b ≡ Equal
      → path ks x y ≡ path ks a b
  tied_path [] x y a b h l = tied_lists o P m x y a b h l
  tied_path (k ∷ ks) x y a b h l = λ i.
      tied_path ks x y a b h l i
      || (tied_path ks x k a k h (tied_itself o k) i && tied_path ks k y k b (tied_itself o k) l i)

  step : (ks : List K) (a b : K) → lists R P m a b ≡ true → path ks a b ≡ true
  step [] a b h = h
  step (k ∷ ks) a b h = by_first (path ks a b) (path ks a k) (path ks k b) (step ks a b h)

  module _ (ks : List K) (j a b : K) where
    through : path ks a j ≡ true → path ks j b ≡ true → path (j ∷ ks) a b ≡ true
    through h l = by_second (path ks a b) (path ks a j) (path ks j b) h l

    -- two paths that meet at the first key are one
    join_first : (k : K) → R k j ≡ Equal → path (j ∷ ks) a k ≡ true → path (j ∷ ks) k b ≡ true
        → path (j ∷ ks) a b ≡ true
    join_first k e h l = through
        (⊎_elim (λ p. sym (tied_path ks a k a j (tied_itself o a) e) ∙ p) (λ p. p.0)
        (which (path ks a k) (path ks a j) (path ks j k) h))
        (⊎_elim (λ p. sym (tied_path ks k b j b e (tied_itself o b)) ∙ p) (λ p. p.1)
        (which (path ks k b) (path ks k j) (path ks j b) l))

    -- so are two that meet at another one, if those are that go through the others alone
    join_later : (k : K)
        → ((x y : K) → path ks x k ≡ true → path ks k y ≡ true → path ks x y ≡ true)
        → path (j ∷ ks) a k ≡ true → path (j ∷ ks) k b ≡ true → path (j ∷ ks) a b ≡ true
    join_later k joins h l =
        let second = which (path ks k b) (path ks k j) (path ks j b) l in
        ⊎_elim
        (λ p. ⊎_elim
        (λ q. by_first (path ks a b) (path ks a j) (path ks j b) (joins a b p q))
        (λ q. through (joins a j p q.0) q.1)
        second)
        (λ p. ⊎_elim
        (λ q. through p.0 (joins j b p.1 q))
        (λ q. through p.0 q.1)
        second)
        (which (path ks a k) (path ks a j) (path ks j k) h)

  -- two paths that meet at one of the keys are one
  join : (ks : List K) (k : K) → has_class R ks k ≡ true → (a b : K)
      → path ks a k ≡ true → path ks k b ≡ true → path ks a b ≡ true
  join [] k c a b h l = absurd (true≢false (sym c))
  join (j ∷ ks) k c a b h l = ⊎_elim
      (λ e. join_first ks j a b k ((Equal-is (R k j)).0 e) h l)
      (λ d. join_later ks j a b k (λ x y p q. join ks k d x y p q) h l)
      (or_cases (eq_by_cmp R k j) (has_class R ks k) c)

  -- a key that lists a parent has an entry
  has_entry : (e : Option V) (b : K) → is_listed R P e b ≡ true → (w : V) × (e ≡ Some w)
  has_entry None b h = absurd (true≢false (sym h))
  has_entry (Some w) b h = (w, refl)

  -- a key with an ancestor has an entry
  pub starts : {a b : K} → IsAncestorOf R P m a b → HasEntry R m a
  starts {a} {b} (one r) = has_entry (entry_at R m a) b r
  starts {a} (more {y = p} r q) = has_entry (entry_at R m a) p r

-- and so is among the keys
is_key : {K V : Type 0} (R : K → K → Ordering) (m : List (K × V)) (k : K) (w : V)
    → entry_at R m k ≡ Some w → has_class R (map (λ e. e.0) m) k ≡ true
is_key R [] k w h = cc
is_key R (e ∷ es) k w h =
    elim (eq_by_cmp R k e.0) as (λ b. eq_by_cmp R k e.0 ≡ b → (b || has_class R (map (λ e. e.0) es) k) ≡ true) [
      | true ↦ λ _. refl
      | false ↦ λ n. is_key R es k w (ap (λ b. cond b (Some e.1) (entry_at R es k)) (sym n) ∙ h)
    ] refl

module _ {K V : Type 0} {R : K → K → Ordering} (o : IsTotalOrder R) (P : V → List K)
    (m : List (K × V)) where
  keys : List K
  keys = map (λ e. e.0) m

  along : {a b : K} → IsAncestorOf R P m a b → has_path R P m (map (λ e. e.0) m) a b ≡ true
  along {a} {b} (one r) = step o P m (map (λ e. e.0) m) a b r
  along {a} {b} (more {y = p} r q) =
      let e = starts o P m q in
      join o P m (map (λ e. e.0) m) p (is_key R m p e.0 e.1) a b (step o P m (map (λ e. e.0) m) a p r) (along q)

  back : (ks : List K) (a b : K) → has_path R P m ks a b ≡ true → IsAncestorOf R P m a b
  back [] a b h = one h
  back (k ∷ ks) a b h = ⊎_elim
      (λ p. back ks a b p)
      (λ p. Reaches-trans (back ks a k p.0) (back ks k b p.1))
      (which (has_path R P m ks a b) (has_path R P m ks a k) (has_path R P m ks k b) h)

  -- the test of an ancestor is right
  pub ancestor_tested : (a b : K) → IsTrue (is_ancestor R P m a b) ↔ IsAncestorOf R P m a b
  ancestor_tested a b = (back (map (λ e. e.0) m) a b, along)
