-- What is closed and holds no call is known, where it has a value; and a simplified tree asks for
-- no more than the tree.
use Rattle.std.proofs.Common.{◌≡◌, refl, sym, ◌∙◌, ap, subst, Bool, true, false, ◌&&◌, ◌||◌, Option, Some, None, Result, Ok}
use Rattle.std.proofs.lemmas.Bool.{false≢true}
use Rattle.std.specs.Prelude.{is_some}
use Rattle.std.specs.declared.cmp.Ordering.{Ordering}
use Rattle.cedar_names.specs.Names.{BareName}
use Rattle.cedar_terms.specs.Types.{BareType}
use Rattle.cedar_builders.specs.BareExpr.{Text, BareExpr, Unknown}
use Rattle.cedar_builders.specs.Environment.{Env, empty, own, bound, fold}
use Rattle.cedar_builders.specs.Fold.{fold_with}
use Rattle.cedar_builders.specs.Trees.{sure}
use Rattle.cedar_builders.specs.Walks.{preorder}
use Rattle.semantics_values.specs.BareValue.{BareCall, BareValue}
use Rattle.semantics_values.specs.ValueExpr.{value_expr, has_extension}
use Rattle.semantics_values.specs.Laws.{BindsPlainValues}
use Rattle.semantics_eval.specs.Outcomes.{Outcome}
use Rattle.semantics_eval.specs.Evaluator.{evaluator_ops}
use Rattle.semantics_eval.specs.Laws.{is_closed_node, is_closed}
use Rattle.semantics_simplify.specs.Asks.{Ask, OfUnknown, passes, asks_only, is_bound_or, is_no_call, holds_no_call}
use Rattle.semantics_simplify.specs.Simplified.{Simplified, Known, tree_of, outcome_of}
use Rattle.semantics_simplify.specs.Simplifier.{simplifier_ops, simplified_in}
use Rattle.semantics_simplify.specs.Laws.{ClosedIsKnown, AsksNoMore, ValueKnown}
use Rattle.semantics_simplify.specs.Plain.{IsPlain}
use Rattle.semantics_simplify.proofs.Values.{IsPlainTree, EvaluatorLaws, bound_value, evaluates}
use Rattle.semantics_simplify.proofs.Calls.{value_passes, IsAnswer}
use Rattle.semantics_simplify.proofs.Means.{Means, residual, known}
use Rattle.semantics_simplify.proofs.Asks.{Passing, tree_passes, passed}
use Rattle.semantics_simplify.specs.Sure.{Sure, sure_is, sure_answer}
use Rattle.semantics_simplify.proofs.Sound.{sound, bound_answers}
use Rattle.semantics_simplify.proofs.Decides.{is_settled_node, both_pass, Decides, decides_value, decided}

pub or_with_true : (b : Bool) → (b || true) ≡ true
or_with_true true = refl
or_with_true false = refl

module _ {X : Type 0} {R : X → X → Ordering} {E : X → X → Bool} (laws : EvaluatorLaws R E)
    (C : X → BareCall) where
  -- unknowns as themselves
  abbrev f : Text → Option BareType → Result (Outcome X) BareName
  f = own (evaluator_ops R E)

  abbrev g : Text → Option BareType → Result (Simplified X) ⊥
  g = own (simplifier_ops R E C)

  abbrev make : BareExpr → Result (Simplified X) ⊥
  make = fold_with (simplifier_ops R E C) g

  abbrev ev : BareExpr → Result (Outcome X) BareName
  ev = fold_with (evaluator_ops R E) f

  own_same : (n : Text) (t : Option BareType) → Sure (Means laws C f) (g n t) (f n t)
  own_same n t = residual laws C f (Unknown n t) (f n t) refl

  value_decided : (t : BareValue X) → has_extension t ≡ false
      → Decides laws C f (λ n s. tt) (sure (make (value_expr C t))) (ev (value_expr C t))
  value_decided t h =
      let e = value_expr C t in
      sure_is (Decides laws C f (λ n s. tt)) (make e) (ev e)
      (decided laws C f (λ n s. tt) g own_same empty (λ n s is. absurd (false≢true is))
      (λ n s. refl) e
      (value_passes (is_settled_node empty) C (λ l. refl) (λ es. refl) (λ fs. refl) t h))

  -- an unknown that is bound to a value is that value, known
  pub bound_known : (r : BareType × BareExpr) → IsPlainTree C r.1 → (n : Text) (s : Option BareType)
      → (u : BareValue X) × IsPlain R u × (bound (simplifier_ops R E C) (Some r) n s ≡ Ok (Known u))
      × (bound (evaluator_ops R E) (Some r) n s ≡ Ok (Ok u))
  bound_known r plain n s =
      let v = bound_value R E C r.1 plain in
      let e = value_expr C plain.0 in
      let gives : ev e ≡ Ok (Ok v.0) = sym (ap ev plain.2) ∙ v.1 f in
      let k = value_decided plain.0 plain.1 v.0 gives in
      let m = sure_is (Means laws C f) (make e) (ev e) (sound laws C f (λ n s. tt) g own_same e) in (
        v.0,
        (m.value v.0 (ap outcome_of k)).0,
        ap make plain.2 ∙ (sure_answer (make e) ∙ ap Ok k),
        v.1 f,
      )

  module _ (env : Env) (plain : BindsPlainValues C env) where
    abbrev pub f_in : Text → Option BareType → Result (Outcome X) BareName
    f_in n t = bound (evaluator_ops R E) (env n) n t

    abbrev g_in : Text → Option BareType → Result (Simplified X) ⊥
    g_in n t = bound (simplifier_ops R E C) (env n) n t

    answers_in : (n : Text) (t : Option BareType) → IsAnswer (f_in n t)
    answers_in n t = bound_answers laws C (env n) (plain n) n t

    same_in : (x : Option (BareType × BareExpr))
        → ((r : BareType × BareExpr) → x ≡ Some r → IsPlainTree C r.1)
        → (n : Text) (t : Option BareType) → f_in n t ≡ bound (evaluator_ops R E) x n t
        → Sure (Means laws C f_in) (bound (simplifier_ops R E C) x n t)
        (bound (evaluator_ops R E) x n t)
    same_in None h n t is = residual laws C f_in (Unknown n t) (f n t) is
    same_in (Some r) h n t is =
        let k = bound_known r (h r refl) n t in
        subst (λ x. Sure (Means laws C f_in) x (bound (evaluator_ops R E) (Some r) n t)) (sym k.2)
        (subst (Means laws C f_in (Known k.0)) (sym k.3) (known laws C f_in k.0 k.1))

    decided_in : (x : Option (BareType × BareExpr))
        → ((r : BareType × BareExpr) → x ≡ Some r → IsPlainTree C r.1)
        → (n : Text) (t : Option BareType) → is_some x ≡ true
        → Sure (Decides laws C f_in answers_in) (bound (simplifier_ops R E C) x n t)
        (bound (evaluator_ops R E) x n t)
    decided_in None h n t is = absurd (false≢true is)
    decided_in (Some r) h n t is =
        let k = bound_known r (h r refl) n t in
        subst
        (λ x. Sure (Decides laws C f_in answers_in) x (bound (evaluator_ops R E) (Some r) n t))
        (sym k.2)
        (subst (Decides laws C f_in answers_in (Known k.0)) (sym k.3)
        (decides_value laws C f_in answers_in k.0))

    passing_in : (Q : Ask → Bool) (x : Option (BareType × BareExpr))
        → ((r : BareType × BareExpr) → x ≡ Some r → IsPlainTree C r.1)
        → (n : Text) (t : Option BareType) → (is_some x || Q (OfUnknown n t)) ≡ true
        → Sure (λ p r. Passing Q p) (bound (simplifier_ops R E C) x n t)
        (bound (evaluator_ops R E) x n t)
    passing_in Q None h n t is = λ i. is i && true
    passing_in Q (Some r) h n t is =
        let k = bound_known r (h r refl) n t in
        subst (λ x. Sure (λ p r. Passing Q p) x (bound (evaluator_ops R E) (Some r) n t))
        (sym k.2) tt

    pub passed_in : (Q : Ask → Bool) (e : BareExpr) → asks_only (is_bound_or env Q) e ≡ true
        → Sure (λ p r. Passing Q p) (fold (simplifier_ops R E C) env e)
        (fold (evaluator_ops R E) env e)
    passed_in Q =
        passed laws C f_in answers_in g_in (λ n t. same_in (env n) (plain n) n t refl) Q env
        (λ n t is. passing_in Q (env n) (plain n) n t is)

    known_in : (e : BareExpr) → is_closed env e ≡ true → holds_no_call e ≡ true
        → (t : BareValue X) → fold (evaluator_ops R E) env e ≡ Ok (Ok t)
        → simplified_in R E C env e ≡ Known t
    known_in e closed none =
        sure_is (Decides laws C f_in answers_in) (fold (simplifier_ops R E C) env e)
        (fold (evaluator_ops R E) env e)
        (decided laws C f_in answers_in g_in (λ n t. same_in (env n) (plain n) n t refl)
        env (λ n t is. decided_in (env n) (plain n) n t is)
        (λ n t. passing_in is_no_call (env n) (plain n) n t (or_with_true (is_some (env n)))) e
        (both_pass (is_closed_node env) (passes is_no_call) (preorder e) closed none))

    -- a value's tree is made that value
    pub value_made : (t : BareValue X) → IsPlain R t
        → fold (simplifier_ops R E C) env (value_expr C t) ≡ Ok (Known t)
    value_made t h =
        sure_answer (fold (simplifier_ops R E C) env (value_expr C t))
        ∙ ap Ok
        (known_in (value_expr C t)
        (value_passes (is_closed_node env) C (λ l. refl) (λ es. refl) (λ fs. refl) t h.plain)
        (value_passes (passes is_no_call) C (λ l. refl) (λ es. refl) (λ fs. refl) t h.plain)
        t (evaluates laws C f_in t h))

    pub sound_in : (e : BareExpr)
        → Sure (Means laws C f_in) (fold (simplifier_ops R E C) env e)
        (fold (evaluator_ops R E) env e)
    sound_in = sound laws C f_in answers_in g_in (λ n t. same_in (env n) (plain n) n t refl)

    asked_in : (Q : Ask → Bool) (e : BareExpr) → asks_only (is_bound_or env Q) e ≡ true
        → asks_only Q (tree_of C (simplified_in R E C env e)) ≡ true
    asked_in Q e h =
        let x = fold (simplifier_ops R E C) env e in
        let r = fold (evaluator_ops R E) env e in
        tree_passes laws C f_in answers_in g_in (λ n t. same_in (env n) (plain n) n t refl) Q env
        (sure x) r (
          sure_is (Means laws C f_in) x r (sound_in e),
          sure_is (λ p r. Passing Q p) x r (passed_in Q e h),
        )

module _ {X : Type 0} {R : X → X → Ordering} {E : X → X → Bool} (laws : EvaluatorLaws R E) where
  pub closed_is_known : ClosedIsKnown R E
  closed_is_known C env plain e closed none = known_in laws C env plain e closed none

  pub asks_no_more : AsksNoMore R E
  asks_no_more C env plain Q e h = asked_in laws C env plain Q e h

  -- nothing is bound
  nothing_bound : (C : X → BareCall) → BindsPlainValues C empty
  nothing_bound C n r is = cc

  pub value_known : ValueKnown R E
  value_known C t kept plain =
      value_made laws C empty (nothing_bound C) t (record { well_formed = kept; plain = plain })
