-- Pairs put into the order of their keys: the keys ascend, and what holds of each pair still does.
use Rattle.std.proofs.Common.{◌≡◌, List, [], ◌∷◌, map, fold, Less, Equal, Greater, nat_cmp, refl, ap, ◌∙◌}
use Rattle.std.specs.Ordering.{match_ordering, ordering_reverse}
use Rattle.std.specs.List.{AllByRecursion}
use Rattle.std.specs.List.Sorted.{IsStrictlySortedBy}
use Rattle.std.specs.BTreeMap.{insert_entry}
use Rattle.std.specs.Cmp.Lexicographic.{slice_cmp, nat_list_cmp_total}
use Rattle.cedar_builders.specs.BareExpr.{Text}
use Rattle.cedar_builders.specs.Keys.{IsAscending, in_key_order}

-- a key is below each of these
abbrev IsBelow : Text → List Text → Type 0
IsBelow k = AllByRecursion (λ l. slice_cmp nat_cmp k l ≡ Less)

below_all : (k l : Text) (ks : List Text) → slice_cmp nat_cmp k l ≡ Less → IsBelow l ks → IsBelow k ks
below_all k l [] h below = tt
below_all k l (m ∷ ks) h below = (nat_list_cmp_total.trans k l m h below.0, below_all k l ks h below.1)

module _ {A : Type 0} where
  abbrev pub texts : List (Text × A) → List Text
  texts = map (λ p. p.0)

  abbrev put : List (Text × A) → Text × A → List (Text × A)
  put es p = insert_entry (slice_cmp nat_cmp) es p.0 p.1

  put_below : (k : Text) (es : List (Text × A)) (p : Text × A) → IsBelow k (texts es) → slice_cmp nat_cmp k p.0 ≡ Less → IsBelow k (texts (put es p))
  put_below k [] p below h = (h, tt)
  put_below k (e ∷ es) p below h =
      elim (slice_cmp nat_cmp p.0 e.0) as (λ o. IsBelow k (texts (match_ordering o (p ∷ e ∷ es) ((e.0, p.1) ∷ es) (e ∷ put es p)))) [
        | Less ↦ (h, below)
        | Equal ↦ below
        | Greater ↦ (below.0, put_below k es p below.1 h)
      ]

  put_ascends : (es : List (Text × A)) (p : Text × A) → IsAscending (texts es) → IsAscending (texts (put es p))
  unfolding IsStrictlySortedBy
  put_ascends [] p h = (tt, tt)
  put_ascends (e ∷ es) p h =
      elim (slice_cmp nat_cmp p.0 e.0) as (λ o. slice_cmp nat_cmp p.0 e.0 ≡ o → IsAscending (texts (match_ordering o (p ∷ e ∷ es) ((e.0, p.1) ∷ es) (e ∷ put es p)))) [
        | Less ↦ λ is. ((is, below_all p.0 e.0 (texts es) is h.0), h)
        | Equal ↦ λ is. h
        | Greater ↦ λ is. (put_below e.0 es p h.0 (nat_list_cmp_total.antisymm e.0 p.0 ∙ ap ordering_reverse is), put_ascends es p h.1)
      ] refl

  all_ascend : (es ps : List (Text × A)) → IsAscending (texts es) → IsAscending (texts (fold put es ps))
  all_ascend es [] h = h
  all_ascend es (p ∷ ps) h = all_ascend (put es p) ps (put_ascends es p h)

  -- their keys ascend
  pub in_order_ascends : (ps : List (Text × A)) → IsAscending (texts (in_key_order ps))
  unfolding IsStrictlySortedBy
  in_order_ascends ps = all_ascend [] ps tt

  module _ (K : Text → Type 0) (V : A → Type 0) where
    abbrev pub AllHold : List (Text × A) → Type 0
    AllHold = AllByRecursion (λ p. K p.0 × V p.1)

    put_holds : (es : List (Text × A)) (p : Text × A) → AllHold es → K p.0 → V p.1 → AllHold (put es p)
    put_holds [] p h k v = ((k, v), tt)
    put_holds (e ∷ es) p h k v =
        elim (slice_cmp nat_cmp p.0 e.0) as (λ o. AllHold (match_ordering o (p ∷ e ∷ es) ((e.0, p.1) ∷ es) (e ∷ put es p))) [
          | Less ↦ ((k, v), h)
          | Equal ↦ ((h.0.0, v), h.1)
          | Greater ↦ (h.0, put_holds es p h.1 k v)
        ]

    all_hold : (es ps : List (Text × A)) → AllHold es → AllHold ps → AllHold (fold put es ps)
    all_hold es [] h hs = h
    all_hold es (p ∷ ps) h hs = all_hold (put es p) ps (put_holds es p h hs.0.0 hs.0.1) hs.1

    -- what holds of each key and each value still does
    pub in_order_holds : (ps : List (Text × A)) → AllHold ps → AllHold (in_key_order ps)
    in_order_holds ps h = all_hold [] ps tt h
