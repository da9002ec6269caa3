-- Stores of keys and entries, and of what these stand for.
use Rattle.std.specs.Prelude.{◌≡◌, ◌↔◌, Bool, true, false, ◌||◌, List, [], ◌∷◌, map, Option, Some, None, option_map}
use Rattle.std.proofs.Common.{refl, sym, ap, ◌∙◌, cond}
use Rattle.std.specs.Cmp.{IsTotalOrder, tied_itself, Equal-is}
use Rattle.std.specs.Ordering.{on, eq_by_cmp}
use Rattle.std.specs.declared.cmp.Ordering.{Ordering}
use Rattle.std.specs.declared.cmp.Ordering.TheVariants.{Equal}
use Rattle.std.proofs.lemmas.Bool.{true≢false}
use Rattle.cedar_sorted_slices.specs.Classes.{has_class}
use Rattle.cedar_ancestors.specs.Reaching.{one, more}
use Rattle.cedar_ancestors.specs.Keyed.{entry_at, is_listed, lists, IsAncestorOf}
use Rattle.cedar_ancestors.specs.Stores.{KnowsAllParents, EntriesStay}
use Rattle.cedar_ancestors.specs.Ties.{tied_entry, tied_lists}

-- f says what a key stands for, g what an entry does; P and Q give the parents that these list
module _ {K L V W : Type 0} {S : L → L → Ordering} (o : IsTotalOrder S) (f : K → L) (g : V → W)
    (P : V → List K) (Q : W → List L) (maps : (v : V) → Q (g v) ≡ map f (P v)) where
  abbrev R : K → K → Ordering
  R = on f S

  abbrev image : List (K × V) → List (L × W)
  image = map (λ p. (f p.0, g p.1))

  -- the entry of what a key stands for is what its entry stands for
  pub entry_image : (m : List (K × V)) (k : K)
      → entry_at S (image m) (f k) ≡ option_map g (entry_at R m k)
  entry_image [] k = refl
  entry_image (e ∷ es) k = go (eq_by_cmp R k e.0) (entry_image es k)
    where
      go : (b : Bool) → entry_at S (image es) (f k) ≡ option_map g (entry_at R es k)
          → cond b (Some (g e.1)) (entry_at S (image es) (f k))
          ≡ option_map g (cond b (Some e.1) (entry_at R es k))
      go true h = refl
      go false h = h

  class_image : (xs : List K) (k : K) → has_class S (map f xs) (f k) ≡ has_class R xs k
  class_image [] k = refl
  class_image (x ∷ xs) k = ap (λ b. eq_by_cmp S (f k) (f x) || b) (class_image xs k)

  lists_image : (m : List (K × V)) (a b : K) → lists S Q (image m) (f a) (f b) ≡ lists R P m a b
  lists_image m a b =
      ap (λ e. is_listed S Q e (f b)) (entry_image m a) ∙ at (entry_at R m a)
    where
      at : (e : Option V) → is_listed S Q (option_map g e) (f b) ≡ is_listed R P e b
      at None = refl
      at (Some v) = ap (λ xs. has_class S xs (f b)) (maps v) ∙ class_image (P v) b

  -- what ties with a member of an image ties with the image of a member
  member : (xs : List K) (z : L) → has_class S (map f xs) z ≡ true → (p : K) × (S z (f p) ≡ Equal)
  member [] z h = absurd (true≢false (sym h))
  member (x ∷ xs) z h =
      elim (eq_by_cmp S z (f x)) as (λ b. eq_by_cmp S z (f x) ≡ b → (b || has_class S (map f xs) z) ≡ true → (p : K) × (S z (f p) ≡ Equal)) [
        | true ↦ λ e _. (x, (Equal-is (S z (f x))).0 e)
        | false ↦ λ _ r. member xs z r
      ] refl h

  -- a parent of what stands for a key stands for a key
  parent_of : (m : List (K × V)) (a : K) (z : L) → lists S Q (image m) (f a) z ≡ true
      → (p : K) × (S z (f p) ≡ Equal)
  parent_of m a z h =
      at (entry_at R m a) (ap (λ e. is_listed S Q e z) (sym (entry_image m a)) ∙ h)
    where
      at : (e : Option V) → is_listed S Q (option_map g e) z ≡ true → (p : K) × (S z (f p) ≡ Equal)
      at None l = absurd (true≢false (sym l))
      at (Some v) l = member (P v) z (ap (λ xs. has_class S xs z) (sym (maps v)) ∙ l)

  module _ (m : List (K × V)) where
    to_image : {a b : K} → IsAncestorOf R P m a b → IsAncestorOf S Q (image m) (f a) (f b)
    to_image {a} {b} (one r) = one (lists_image m a b ∙ r)
    to_image {a} (more {y = p} r q) = more (lists_image m a p ∙ r) (to_image q)

    from_tied : (a b : K) {x y : L} → S x (f a) ≡ Equal → S y (f b) ≡ Equal
        → IsAncestorOf S Q (image m) x y → IsAncestorOf R P m a b
    from_tied a b {x} {y} h l (one r) =
        one (sym (lists_image m a b) ∙ (sym (tied_lists o Q (image m) x y (f a) (f b) h l) ∙ r))
    from_tied a b {x} {y} h l (more {y = z} r q) =
        let s : lists S Q (image m) (f a) z ≡ true =
        sym (tied_lists o Q (image m) x z (f a) z h (tied_itself o z)) ∙ r in
        let p = parent_of m a z s in
        let t : lists S Q (image m) (f a) (f p.0) ≡ true =
        sym (tied_lists o Q (image m) (f a) z (f a) (f p.0) (tied_itself o (f a)) p.1) ∙ s in
        more (sym (lists_image m a p.0) ∙ t) (from_tied p.0 b p.1 l q)

    -- ancestors stand for ancestors
    pub ancestors_image :
        (a b : K) → IsAncestorOf R P m a b ↔ IsAncestorOf S Q (image m) (f a) (f b)
    ancestors_image a b = (
      (λ h. to_image h),
      (λ h. from_tied a b (tied_itself o (f a)) (tied_itself o (f b)) h),
    )

  -- an entry of the image is that of a key
  entry_from : (m : List (K × V)) (u : L) (b : W) → entry_at S (image m) u ≡ Some b
      → (k : K) × (S u (f k) ≡ Equal)
  entry_from [] u b h = cc
  entry_from (e ∷ es) u b h =
      elim (eq_by_cmp S u (f e.0)) as (λ t. eq_by_cmp S u (f e.0) ≡ t → cond t (Some (g e.1)) (entry_at S (image es) u) ≡ Some b → (k : K) × (S u (f k) ≡ Equal)) [
        | true ↦ λ t _. (e.0, (Equal-is (S u (f e.0))).0 t)
        | false ↦ λ _ l. entry_from es u b l
      ] refl h

  some_image : (e : Option V) (b : W) → option_map g e ≡ Some b → (v : V) × (e ≡ Some v) × (g v ≡ b)
  some_image None b h = cc
  some_image (Some v) b h = (v, refl, cc)

  -- what has an entry keeps it, in what the entries stand for too
  pub entries_image : (m n : List (K × V)) → EntriesStay R m n → EntriesStay S (image m) (image n)
  entries_image m n stays u b h =
      let k = entry_from m u b h in
      let v = some_image (entry_at R m k.0) b (sym (entry_image m k.0) ∙ (sym (tied_entry o (image m) u (f k.0) k.1) ∙ h)) in
      tied_entry o (image n) u (f k.0) k.1
      ∙ (entry_image n k.0 ∙ (ap (option_map g) (stays k.0 v.0 v.1) ∙ ap Some v.2))

  -- and each parent has an entry there, if each has one
  pub parents_image : (m : List (K × V)) → KnowsAllParents R P m → KnowsAllParents S Q (image m)
  parents_image m known x y h =
      let c = child (entry_at S (image m) x) refl h in
      let t : lists S Q (image m) (f c.0) y ≡ true =
      sym (tied_lists o Q (image m) x y (f c.0) y c.1 (tied_itself o y)) ∙ h in
      let p = parent_of m c.0 y t in
      let s : lists S Q (image m) (f c.0) (f p.0) ≡ true =
      sym (tied_lists o Q (image m) (f c.0) y (f c.0) (f p.0) (tied_itself o (f c.0)) p.1) ∙ t in
      let e = known c.0 p.0 (sym (lists_image m c.0 p.0) ∙ s) in
      (g e.0, tied_entry o (image m) y (f p.0) p.1 ∙ (entry_image m p.0 ∙ ap (option_map g) e.1))
    where
      child : (e : Option W) → entry_at S (image m) x ≡ e → is_listed S Q e y ≡ true
          → (k : K) × (S x (f k) ≡ Equal)
      child None is l = absurd (true≢false (sym l))
      child (Some w) is l = entry_from m x w is
