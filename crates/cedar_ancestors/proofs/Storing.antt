-- Entries that are added one after another, and what that leaves as it was.
use Rattle.std.proofs.Common.{◌≡◌, ◌⊎◌, ℕ, ◌+◌, ◌<◌, Bool, true, false, cond, ◌||◌, List, [], ◌∷◌, ◌++◌, length, take, get_or, Option, Some, None, Result, Ok, Err, IfOk, IfErr, OnOk, is_some, refl, sym, ap, ◌∙◌, subst, inl, inr, ⊎_elim, arith}
use Rattle.std.specs.Cmp.{IsTotalOrder, tied_back, Equal-is}
use Rattle.std.specs.List.{Contains}
use Rattle.std.specs.Map.{lookup}
use Rattle.std.specs.Ordering.{eq_by_cmp, is_eq}
use Rattle.std.specs.declared.cmp.Ordering.{Ordering}
use Rattle.std.specs.declared.cmp.Ordering.TheVariants.{Equal}
use Rattle.std.proofs.lemmas.Bool.{or_cases, true≢false}
use Rattle.std.proofs.lemmas.List.Elements.{Contains-append_left, Contains-push, Contains-push_cases}
use Rattle.std.proofs.lemmas.List.Folds.{list_any_more}
use Rattle.cedar_sorted_slices.specs.Classes.{has_class}
use Rattle.cedar_ancestors.specs.Keyed.{entry_at, AreKnown}
use Rattle.cedar_ancestors.specs.Stores.{HasEntry, HaveEntries, KnowsAllParents, EntriesStay, IsThere, HasAdded, HasMore, IsRefusalAt, IsRefusalOfAll, IsRefusedFor, IsRefusedStore}
use Rattle.cedar_ancestors.specs.declared.store.StoreError.{StoreError}
use Rattle.cedar_ancestors.specs.declared.store.StoreError.TheVariants.{Duplicate, Cycle, MissingParent, Memory}

module _ {K V : Type 0} (R : K → K → Ordering) (F : V → V → Bool) (key : V → K) where
  pub more_none : (m : List (K × V)) → HasMore R F key m m []
  more_none m = record {
    there = λ v h. absurd (omega (arith, h.1));
    stays = λ k w h. h;
    only = λ k w h. inl h;
  }

  pub more_push : (m n after : List (K × V)) (vs : List V) (x : V) → HasMore R F key m n vs
      → HasAdded R F key n after x → HasMore R F key m after (vs ++ x ∷ [])
  more_push m n after vs x h a = record {
    there = λ v c. ⊎_elim
        (λ d. let t = h.there v d in
        record { kept = t.kept; at = a.stays (key v) t.kept t.at; equal = t.equal })
        (λ e. subst (IsThere R F key after) e a.there)
        (Contains-push_cases vs x v c);
    stays = λ k w i. a.stays k w (h.stays k w i);
    only = λ k w i. ⊎_elim
        (λ j. ⊎_elim inl (λ p. inr (Contains-append_left vs (x ∷ []) w p.0, p.1)) (h.only k w j))
        (λ p. inr (
          subst (Contains (vs ++ x ∷ [])) (sym p.0) (Contains-push vs x),
          subst (λ v. R (key v) k ≡ Equal) (sym p.0) p.1,
        ))
        (a.only k w i);
  }

  -- an entry that was not added, after those of a list were
  pub refused_after : (m n : List (K × V)) (vs rest : List V) (x : V) → HasMore R F key m n vs
      → (e : StoreError K) → IsRefusalAt R F key n x e
      → IsRefusalOfAll R F key m (vs ++ x ∷ rest) e
  refused_after m n vs rest x h (Duplicate k) r = record {
    given = x;
    other = r.0;
    is_given = subst (λ ys. Contains ys x) (split vs) (Contains-append_left (vs ++ x ∷ []) rest x (Contains-push vs x));
    at = r.3;
    stands = ⊎_elim inl (λ p. inr (Contains-append_left vs (x ∷ rest) r.0 p.0, p.1)) (h.only k r.0 r.1);
    differs = r.2;
  }
    where
      split : (ys : List V) → (ys ++ x ∷ []) ++ rest ≡ ys ++ x ∷ rest
      split [] = refl
      split (y ∷ ys) = ap (λ zs. y ∷ zs) (split ys)
  refused_after m n vs rest x h Memory r = tt
  refused_after m n vs rest x h (Cycle k) r = r
  refused_after m n vs rest x h (MissingParent k) r = r

module _ {K V : Type 0} {R : K → K → Ordering} (o : IsTotalOrder R) where
  pub entry_alike : (m : List (K × V)) (x y : K) → R x y ≡ Equal → entry_at R m x ≡ entry_at R m y
  entry_alike m x y e = λ i. lookup (λ (k : K). is_eq (o.congr x y k e i)) m

  module _ (F : V → V → Bool) (key : V → K) (m : List (K × V)) (v : V) (k : K)
      (alike : R (key v) k ≡ Equal) where
    -- an entry that is equal to what is there
    pub added_same : (w : V) → entry_at R m k ≡ Some w → F w v ≡ true → HasAdded R F key m m v
    added_same w at equal = record {
      there = record { kept = w; at = entry_alike m (key v) k alike ∙ at; equal = equal };
      stays = λ q x h. h;
      only = λ q x h. inl h;
    }

    -- an entry at a key that had none
    module _ (n : List (K × V)) (absent : entry_at R m k ≡ None) (itself : F v v ≡ true)
        (updates : (q : K) → entry_at R n q ≡ cond (eq_by_cmp R k q) (Some v) (entry_at R m q)) where
      at_key : (q : K) → R k q ≡ Equal → entry_at R n q ≡ Some v
      at_key q e = updates q ∙ ap (λ b. cond b (Some v) (entry_at R m q)) (ap is_eq e)

      stays : EntriesStay R m n
      stays q w h =
          elim (eq_by_cmp R k q) as (λ b. eq_by_cmp R k q ≡ b → entry_at R n q ≡ Some w) [
            | true ↦ λ e. let x : None ≡ Some w = sym absent ∙ (entry_alike m k q ((Equal-is (R k q)).0 e) ∙ h) in cc
            | false ↦ λ e. updates q ∙ (ap (λ b. cond b (Some v) (entry_at R m q)) e ∙ h)
          ] refl

      only : (q : K) (w : V) → entry_at R n q ≡ Some w
          → (entry_at R m q ≡ Some w) ⊎ ((w ≡ v) × (R (key v) q ≡ Equal))
      only q w h =
          elim (eq_by_cmp R k q) as (λ b. eq_by_cmp R k q ≡ b → (entry_at R m q ≡ Some w) ⊎ ((w ≡ v) × (R (key v) q ≡ Equal))) [
            | true ↦ λ e.
                let is = (Equal-is (R k q)).0 e in
                let same : Some w ≡ Some v = sym h ∙ at_key q is in
                inr (cc, o.congr (key v) k q alike ∙ is)
            | false ↦ λ e. inl (sym (ap (λ b. cond b (Some v) (entry_at R m q)) e) ∙ (sym (updates q) ∙ h))
          ] refl

      pub added_new : HasAdded R F key m n v
      added_new = record {
        there = record { kept = v; at = at_key (key v) (tied_back o (key v) k alike); equal = itself };
        stays = stays;
        only = only;
      }

  -- one more key that has an entry
  pub have_more : (m : List (K × V)) (keys : List K) (i : ℕ) (x : K) → i < length keys
      → x ≡ get_or keys i x → HaveEntries R m (take i keys) → HasEntry R m x
      → HaveEntries R m (take (i + 1) keys)
  have_more m keys i x lt is have here q h =
      ⊎_elim
      (λ t. have q t)
      (λ t. (here.0, entry_alike m q x ((Equal-is (R q x)).0 t) ∙ here.1))
      (or_cases (has_class R (take i keys) q) (eq_by_cmp R q x)
      (sym (list_any_more (eq_by_cmp R q) keys i x lt
      ∙ ap (λ (y : K). has_class R (take i keys) q || eq_by_cmp R q y) (sym is)) ∙ h))

-- parents are known where each key that occurs has an entry
pub parents_known : {K V : Type 0} (R : K → K → Ordering) (P : V → List K) (keys : List K)
    (m : List (K × V)) → AreKnown R P keys m → HaveEntries R m keys → KnowsAllParents R P m
parents_known R P keys m known have child parent h = have parent (known child parent h).1

-- an entry that was found
pub some_entry : {V : Type 0} (e : Option V) → is_some e ≡ true → (w : V) × (e ≡ Some w)
some_entry None h = absurd (true≢false (sym h))
some_entry (Some w) h = (w, refl)

-- what is said of an error, and of a result by two facts
pub if_err_map : {A E : Type 0} {P Q : E → Type 0} (r : Result A E) → ((e : E) → P e → Q e)
    → IfErr r P → IfErr r Q
if_err_map (Ok a) f h = h
if_err_map (Err e) f h = f e h

pub on_ok_map : {A E Z : Type 0} {P Q : A → Type 0} (r : Result A E) → ((a : A) → Z → P a → Q a)
    → OnOk r Z → IfOk r P → IfOk r Q
on_ok_map (Ok a) f z h = f a z h
on_ok_map (Err e) f z h = h

module _ {K V : Type 0} (R : K → K → Ordering) (F : V → V → Bool) (key : V → K) (P : V → List K) where
  -- why there is no store
  pub refused_all : (m : List (K × V)) (vs : List V) (e : StoreError K)
      → IsRefusalOfAll R F key m vs e → IsRefusedStore R F key P m vs e
  refused_all m vs (Duplicate k) h = h
  refused_all m vs Memory h = tt
  refused_all m vs (Cycle k) h = absurd h
  refused_all m vs (MissingParent k) h = absurd h

  pub refused_made : (m n : List (K × V)) (vs : List V) → HasMore R F key m n vs
      → (e : StoreError K) → IsRefusedFor R P n e → IsRefusedStore R F key P m vs e
  refused_made m n vs more (Duplicate k) h = absurd h
  refused_made m n vs more (Cycle k) h = (n, more, h)
  refused_made m n vs more (MissingParent k) h = (n, more, h)
  refused_made m n vs more Memory h = tt
