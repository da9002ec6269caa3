-- Pairs whose keys ascend, and keys of which one stands twice.
use Rattle.std.proofs.Common.{◌≡◌, List, [], ◌∷◌, ◌++◌, fold, Bool, true, false, not, ◌&&◌, ◌||◌, Less, Greater, nat_cmp, refl, ap, sym, ◌∙◌, subst, append_assoc, append-nil}
use Rattle.std.specs.Ordering.{is_eq, ordering_reverse}
use Rattle.std.specs.List.{AllByRecursion}
use Rattle.std.specs.List.Sorted.{IsStrictlySortedBy}
use Rattle.std.specs.Cmp.Lexicographic.{slice_cmp, nat_list_eq_equiv, nat_list_cmp_total, texts_ties}
use Rattle.std.proofs.lemmas.Bool.{false≢true}
use Rattle.std.proofs.lemmas.List.Folds.{list_any-append}
use Rattle.cedar_builders.specs.BareExpr.{Text}
use Rattle.cedar_builders.specs.Keys.{is_among, are_distinct, IsAscending, HasRepeat, in_key_order, IsFirstRepeat}
use Rattle.cedar_builders.specs.Errors.{key_of, OnDuplicateKey}
use Rattle.cedar_builders.specs.declared.expression_construction_errors.ExpressionConstructionError.{ExpressionConstructionError}
use Rattle.cedar_builders.specs.declared.expression_construction_errors.ExpressionConstructionError.TheVariants.{DuplicateKey, Memory}
use Rattle.cedar_builders.proofs.DistinctKeys.{texts, same, put}

and_false : (b : Bool) → (b && false) ≡ false
and_false true = refl
and_false false = refl

or_true : (b : Bool) → (b || true) ≡ true
or_true true = refl
or_true false = refl

-- keys of which one stands behind an equal one are not distinct
at_first : (k l : Text) (before after : List Text) → same k l ≡ true → are_distinct (l ∷ (before ++ (k ∷ after))) ≡ false
at_first k l before after is =
    let here : same l k ≡ true = nat_list_eq_equiv.symm l k ∙ is in
    let found : is_among l (before ++ (k ∷ after)) ≡ true = list_any-append (same l) before (k ∷ after) ∙ rw here (or_true (is_among l before)) in
    rw found refl

repeats : (before : List Text) (k : Text) (after : List Text) → is_among k before ≡ true → are_distinct (before ++ (k ∷ after)) ≡ false
repeats [] k after h = absurd (false≢true h)
repeats (l ∷ before) k after h =
    elim (same k l) as (λ a. same k l ≡ a → are_distinct (l ∷ (before ++ (k ∷ after))) ≡ false) [
      | true ↦ λ is. at_first k l before after is
      | false ↦ λ is. rw (repeats before k after (ap (λ a. a || is_among k before) (sym is) ∙ h)) (and_false _)
    ] refl

pub first_repeats : (ks : List Text) (k : Text) → IsFirstRepeat ks k → are_distinct ks ≡ false
first_repeats ks k r = ap are_distinct r.split ∙ repeats r.before k r.after r.stood

absent : (k : Text) (ks : List Text) → AllByRecursion (λ y. slice_cmp nat_cmp k y ≡ Less) ks → is_among k ks ≡ false
absent k [] h = refl
absent k (l ∷ ks) h =
    let differ : same k l ≡ false = texts_ties k l ∙ ap is_eq h.0 in
    rw (differ, absent k ks h.1) refl

-- keys that ascend are distinct
ascending_distinct : (ks : List Text) → IsAscending ks → are_distinct ks ≡ true
unfolding IsStrictlySortedBy
ascending_distinct [] h = refl
ascending_distinct (k ∷ ks) h = rw (absent k ks h.0, ascending_distinct ks h.1) refl

-- keys that ascend are never refused as duplicates
pub ascending_accepted : (ks : List Text) (e : ExpressionConstructionError) → OnDuplicateKey (λ d. IsFirstRepeat ks (key_of d)) e → IsAscending ks → e ≡ Memory
ascending_accepted ks (DuplicateKey d) r h = absurd (false≢true (sym (first_repeats ks (key_of d) r) ∙ ascending_distinct ks h))
ascending_accepted ks Memory r h = refl

-- a refusal means that some key stands twice
pub repeat_found : (ks : List Text) (e : ExpressionConstructionError) → OnDuplicateKey (λ d. IsFirstRepeat ks (key_of d)) e → OnDuplicateKey (λ d. HasRepeat ks) e
repeat_found ks (DuplicateKey d) r = ap not (first_repeats ks (key_of d) r)
repeat_found ks Memory r = tt

module _ {A : Type 0} where
  below_later : (k : Text) (done : List (Text × A)) (p : Text × A) (more : List (Text × A)) → AllByRecursion (λ y. slice_cmp nat_cmp k y ≡ Less) (texts (done ++ (p ∷ more))) → slice_cmp nat_cmp k p.0 ≡ Less
  below_later k [] p more h = h.0
  below_later k (d ∷ done) p more h = below_later k done p more h.1

  push_last : (done : List (Text × A)) (p : Text × A) (more : List (Text × A)) → IsAscending (texts (done ++ (p ∷ more))) → put done p ≡ done ++ (p ∷ [])
  unfolding IsStrictlySortedBy
  push_last [] p more h = refl
  push_last (d ∷ done) p more h =
      let above : slice_cmp nat_cmp p.0 d.0 ≡ Greater = nat_list_cmp_total.antisymm p.0 d.0 ∙ ap ordering_reverse (below_later d.0 done p more h.0) in
      rw above (ap (λ es. d ∷ es) (push_last done p more h.1))

  kept_from : (done ps : List (Text × A)) → IsAscending (texts (done ++ ps)) → fold put done ps ≡ done ++ ps
  kept_from done [] h = sym (append-nil done)
  kept_from done (p ∷ ps) h =
      ap (λ es. fold put es ps) (push_last done p ps h)
      ∙ (kept_from (done ++ (p ∷ [])) ps (subst (λ es. IsAscending (texts es)) (sym (append_assoc done (p ∷ []) ps)) h) ∙ append_assoc done (p ∷ []) ps)

  -- pairs whose keys ascend are in the order of their keys
  pub ascending_kept : (ps : List (Text × A)) → IsAscending (texts ps) → in_key_order ps ≡ ps
  ascending_kept ps h = kept_from [] ps h
