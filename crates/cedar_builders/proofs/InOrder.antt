-- Pairs with distinct keys that are put to their places one by one are the same pairs, and their keys ascend.
use Rattle.std.proofs.Common.{◌≡◌, List, [], ◌∷◌, ◌++◌, fold, Bool, true, false, not, Less, Equal, Greater, nat_cmp, refl, ap, sym, ◌∙◌, subst, append-nil, IsTrue}
use Rattle.std.specs.Prelude.{IsPermutation}
use Rattle.std.specs.Ordering.{match_ordering, is_eq, ordering_reverse}
use Rattle.std.specs.List.{AllByRecursion}
use Rattle.std.specs.List.Sorted.{IsStrictlySortedBy}
use Rattle.std.specs.Cmp.Lexicographic.{slice_cmp, nat_list_eq_equiv, nat_list_cmp_total, texts_ties}
use Rattle.std.proofs.Math.Bool.{and-eq-true_iff}
use Rattle.std.proofs.lemmas.Bool.{false≢true}
use Rattle.std.proofs.lemmas.List.Sorted.{IsPermutation-refl, IsPermutation-sym, IsPermutation-trans, IsPermutation-cons, IsPermutation-middle, IsPermutation-append_right}
use Rattle.cedar_builders.specs.BareExpr.{Text}
use Rattle.cedar_builders.specs.Keys.{is_among, are_distinct, IsAscending, in_key_order, IsInKeyOrder}
use Rattle.cedar_builders.proofs.DistinctKeys.{texts, same, put, among-put, or_none}

-- whether a key is below those of a list
abbrev IsBelow : Text → List Text → Type 0
IsBelow k = AllByRecursion (λ l. slice_cmp nat_cmp k l ≡ Less)

-- whether none of some keys is among others
abbrev Apart : List Text → List Text → Type 0
Apart ks ls = AllByRecursion (λ k. is_among k ls ≡ false) ks

below_all : (k l : Text) (ks : List Text) → slice_cmp nat_cmp k l ≡ Less → IsBelow l ks → IsBelow k ks
below_all k l [] h below = tt
below_all k l (m ∷ ks) h below = (nat_list_cmp_total.trans k l m h below.0, below_all k l ks h below.1)

apart_none : (ks : List Text) → Apart ks []
apart_none [] = tt
apart_none (k ∷ ks) = (refl, apart_none ks)

module _ {A : Type 0} where
  put_below : (k : Text) (es : List (Text × A)) (p : Text × A) → IsBelow k (texts es) → slice_cmp nat_cmp k p.0 ≡ Less → IsBelow k (texts (put es p))
  put_below k [] p below h = (h, tt)
  put_below k (e ∷ es) p below h =
      elim (slice_cmp nat_cmp p.0 e.0) as (λ o. IsBelow k (texts (match_ordering o (p ∷ e ∷ es) ((e.0, p.1) ∷ es) (e ∷ put es p)))) [
        | Less ↦ (h, below)
        | Equal ↦ below
        | Greater ↦ (below.0, put_below k es p below.1 h)
      ]

  put_ascends : (es : List (Text × A)) (p : Text × A) → IsAscending (texts es) → IsAscending (texts (put es p))
  unfolding IsStrictlySortedBy
  put_ascends [] p h = (tt, tt)
  put_ascends (e ∷ es) p h =
      elim (slice_cmp nat_cmp p.0 e.0) as (λ o. slice_cmp nat_cmp p.0 e.0 ≡ o → IsAscending (texts (match_ordering o (p ∷ e ∷ es) ((e.0, p.1) ∷ es) (e ∷ put es p)))) [
        | Less ↦ λ is. ((is, below_all p.0 e.0 (texts es) is h.0), h)
        | Equal ↦ λ is. h
        | Greater ↦ λ is. (put_below e.0 es p h.0 (nat_list_cmp_total.antisymm e.0 p.0 ∙ ap ordering_reverse is), put_ascends es p h.1)
      ] refl

  -- a pair whose key is new is added
  put_same : (es : List (Text × A)) (p : Text × A) → is_among p.0 (texts es) ≡ false → IsPermutation (p ∷ es) (put es p)
  put_same [] p h = IsPermutation-refl (p ∷ [])
  put_same (e ∷ es) p h =
      elim (slice_cmp nat_cmp p.0 e.0) as (λ o. slice_cmp nat_cmp p.0 e.0 ≡ o → IsPermutation (p ∷ e ∷ es) (match_ordering o (p ∷ e ∷ es) ((e.0, p.1) ∷ es) (e ∷ put es p))) [
        | Less ↦ λ is. IsPermutation-refl (p ∷ e ∷ es)
        | Equal ↦ λ is. absurd (false≢true (sym (or_none (same p.0 e.0) (is_among p.0 (texts es)) h).0 ∙ (texts_ties p.0 e.0 ∙ ap is_eq is)))
        | Greater ↦ λ is.
            IsPermutation-trans _ _ _ (IsPermutation-sym _ _ (IsPermutation-middle (e ∷ []) p es))
            (IsPermutation-cons e _ _ (put_same es p (or_none (same p.0 e.0) (is_among p.0 (texts es)) h).1))
      ] refl

  -- keys that are apart from a key and from others are apart from these with it
  apart_put : (ks : List Text) (es : List (Text × A)) (p : Text × A) → is_among p.0 ks ≡ false → Apart ks (texts es) → Apart ks (texts (put es p))
  apart_put [] es p h apart = tt
  apart_put (k ∷ ks) es p h apart =
      let parts = or_none (same p.0 k) (is_among p.0 ks) h in
      let differ : same k p.0 ≡ false = nat_list_eq_equiv.symm k p.0 ∙ parts.0 in
      (among-put k es p ∙ rw (differ, apart.0) refl, apart_put ks es p parts.1 apart.1)

  put_all_ascend : (es ps : List (Text × A)) → IsAscending (texts es) → IsAscending (texts (fold put es ps))
  put_all_ascend es [] h = h
  put_all_ascend es (p ∷ ps) h = put_all_ascend (put es p) ps (put_ascends es p h)

  put_all_same : (es ps : List (Text × A)) → IsTrue (are_distinct (texts ps)) → Apart (texts ps) (texts es) → IsPermutation (ps ++ es) (fold put es ps)
  put_all_same es [] h apart = IsPermutation-refl es
  put_all_same es (p ∷ ps) h apart =
      let parts = (and-eq-true_iff (not (is_among p.0 (texts ps))) (are_distinct (texts ps))).0 h in
      let new : is_among p.0 (texts ps) ≡ false = not_true (is_among p.0 (texts ps)) parts.0 in
      IsPermutation-trans _ _ _ (IsPermutation-sym _ _ (IsPermutation-middle ps p es))
      (IsPermutation-trans _ _ _ (IsPermutation-append_right ps _ _ (put_same es p apart.0)) (put_all_same (put es p) ps parts.1 (apart_put (texts ps) es p new apart.1)))
    where
      not_true : (b : Bool) → not b ≡ true → b ≡ false
      not_true true h = absurd (false≢true h)
      not_true false h = refl

  pub pairs_in_key_order : (ps : List (Text × A)) → IsTrue (are_distinct (texts ps)) → IsInKeyOrder ps (in_key_order ps)
  unfolding IsStrictlySortedBy
  pairs_in_key_order ps h = record {
    same = subst (λ qs. IsPermutation qs (in_key_order ps)) (append-nil ps) (put_all_same [] ps h (apart_none (texts ps)));
    ascends = put_all_ascend [] ps tt;
  }
