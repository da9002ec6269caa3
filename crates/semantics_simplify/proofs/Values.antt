-- The outcome of a value's expression, whatever unknowns mean.
use Rattle.std.proofs.Common.{◌≡◌, refl, sym, ◌∙◌, ap, subst, Bool, false, List, [], ◌∷◌, map, Option, Result, Ok}
use Rattle.std.proofs.lemmas.Bool.{true≢false, or_parts}
use Rattle.std.specs.declared.cmp.Ordering.{Ordering}
use Rattle.cedar_names.specs.Names.{BareName}
use Rattle.cedar_terms.specs.Types.{BareType}
use Rattle.cedar_builders.specs.BareExpr.{Text, BareExpr, BareExprs, BareFields}
use Rattle.cedar_builders.specs.Environment.{empty, bound}
use Rattle.cedar_builders.specs.Fold.{on_one, on_two, fold_with, fold_all, fold_fields}
use Rattle.semantics_values.specs.BareValue.{BareCall, BareValue, LitValue, SetValue, RecordValue, ExtensionValue, BareValues, no_values, value, BarePairs, no_pairs, pair, pairs_of}
use Rattle.semantics_values.specs.ValueExpr.{value_expr, member_exprs, pair_exprs, has_extension, any_has_extension, any_pair_has_extension}
use Rattle.semantics_eval.specs.Outcomes.{Outcome}
use Rattle.semantics_eval.specs.Rows.{all_values, all_pairs, set_value, set_outcome, record_outcome}
use Rattle.semantics_eval.specs.Evaluator.{evaluator_ops}
use Rattle.semantics_eval.specs.Laws.{ValueKept, IsAscendingList}
use Rattle.semantics_simplify.specs.Plain.{IsPlain}

pub values_ok : {X : Type 0} (ts : List (BareValue X)) → all_values (map (λ t. Ok t) ts) ≡ Ok ts
values_ok [] = refl
values_ok (t ∷ ts) = ap (on_one (λ us. t ∷ us)) (values_ok ts)

pub pairs_ok : {X : Type 0} (ps : List (Text × BareValue X))
    → all_pairs (map (λ p. (p.0, Ok p.1)) ps) ≡ Ok ps
pairs_ok [] = refl
pairs_ok (p ∷ ps) = ap (on_one (λ qs. p ∷ qs)) (pairs_ok ps)

-- the expression of a value without extension values
abbrev pub IsPlainTree : {X : Type 0} → (X → BareCall) → BareExpr → Type 0
IsPlainTree {X} C e = (t : BareValue X) × (has_extension t ≡ false) × (e ≡ value_expr C t)

-- the laws of the evaluator that are needed here
pub record EvaluatorLaws {X : Type 0} (R : X → X → Ordering) (E : X → X → Bool) : Type 0 where
  pub value_kept : ValueKept R E
  pub ascending_lists : IsAscendingList R

pub evaluator_laws : {X : Type 0} (R : X → X → Ordering) (E : X → X → Bool) → ValueKept R E
    → IsAscendingList R → EvaluatorLaws R E
evaluator_laws R E kept lists = record { value_kept = kept; ascending_lists = lists }

module _ {X : Type 0} (R : X → X → Ordering) (E : X → X → Bool) where
  -- what unknowns mean
  abbrev Unknowns : Type 0
  Unknowns = Text → Option BareType → Result (Outcome X) BareName

  -- a tree has one value, whatever that is
  abbrev pub HasValue : BareExpr → Type 0
  HasValue e = (u : BareValue X) × ((f : Unknowns) → fold_with (evaluator_ops R E) f e ≡ Ok (Ok u))

  -- the same of each member of a set, and of each value of a record
  abbrev HaveValues : BareExprs → Type 0
  HaveValues es =
      (us : List (BareValue X))
      × ((f : Unknowns) → fold_all (evaluator_ops R E) f es ≡ Ok (map (λ u. Ok u) us))

  abbrev HavePairs : BareFields → Type 0
  HavePairs fs =
      (us : List (Text × BareValue X))
      × ((f : Unknowns)
      → fold_fields (evaluator_ops R E) f fs ≡ Ok (map (λ u. (u.0, Ok u.1)) us))

  module _ (C : X → BareCall) where
    mutual
      has_value : (t : BareValue X) → has_extension t ≡ false → HasValue (value_expr C t)
      has_value (LitValue l) h = (LitValue l, λ f. refl)
      has_value (SetValue ts) h =
          let k = have_values ts h in (
            set_value R k.0,
            λ f. ap (on_one (set_outcome R)) (k.1 f)
                ∙ ap (λ r. Ok (on_one (set_value R) r)) (values_ok k.0),
          )
      has_value (RecordValue ps) h =
          let k = have_pairs ps h in (
            RecordValue (pairs_of k.0),
            λ f. ap (on_one record_outcome) (k.1 f)
                ∙ ap (λ r. Ok (on_one (λ qs. RecordValue (pairs_of qs)) r)) (pairs_ok k.0),
          )
      has_value (ExtensionValue x g) h = absurd (true≢false h)

      have_values : (ts : BareValues X) → any_has_extension ts ≡ false
          → HaveValues (member_exprs C ts)
      have_values no_values h = ([], λ f. refl)
      have_values (value t ts) h =
          let p = or_parts (has_extension t) (any_has_extension ts) h in
          let k = has_value t p.0 in
          let l = have_values ts p.1 in
          (k.0 ∷ l.0, λ f i. on_two (λ m ms. m ∷ ms) (k.1 f i) (l.1 f i))

      have_pairs : (ps : BarePairs X) → any_pair_has_extension ps ≡ false
          → HavePairs (pair_exprs C ps)
      have_pairs no_pairs h = ([], λ f. refl)
      have_pairs (pair j t ps) h =
          let p = or_parts (has_extension t) (any_pair_has_extension ps) h in
          let k = has_value t p.0 in
          let l = have_pairs ps p.1 in
          ((j, k.0) ∷ l.0, λ f i. on_two (λ m ms. (j, m) ∷ ms) (k.1 f i) (l.1 f i))

    -- a tree that an unknown is bound to has a value
    pub bound_value : (e : BareExpr) → IsPlainTree C e → HasValue e
    bound_value e plain = subst HasValue (sym plain.2) (has_value plain.0 plain.1)

-- a plain value's expression has that value
pub evaluates : {X : Type 0} {R : X → X → Ordering} {E : X → X → Bool} → EvaluatorLaws R E
    → (C : X → BareCall) (f : Text → Option BareType → Result (Outcome X) BareName)
    (t : BareValue X) → IsPlain R t
    → fold_with (evaluator_ops R E) f (value_expr C t) ≡ Ok (Ok t)
evaluates {R = R} {E = E} laws C f t h =
    let k = has_value R E C t h.plain in
    k.1 f
    ∙ (sym (k.1 (λ n s. bound (evaluator_ops R E) (empty n) n s))
    ∙ laws.value_kept C t h.well_formed h.plain)
