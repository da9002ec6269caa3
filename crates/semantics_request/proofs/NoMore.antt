-- What is left of a condition asks for nothing that is known, and for no more than the condition.
use Rattle.std.proofs.Common.{◌≡◌, refl, Bool, true, false, ◌||◌, Option, Some, None, Result, Ok, Err, is_ok, is_some}
use Rattle.std.proofs.lemmas.Bool.{false≢true, and_from}
use Rattle.std.specs.declared.cmp.Ordering.{Ordering}
use Rattle.cedar_names.specs.Names.{BareName}
use Rattle.cedar_terms.specs.Types.{BareType}
use Rattle.cedar_terms.specs.declared.var.Var.{Var as Variable}
use Rattle.cedar_builders.specs.BareExpr.{Text, BareExpr, Var}
use Rattle.cedar_builders.specs.Environment.{own, bound, fold}
use Rattle.cedar_builders.specs.Fold.{fold_with}
use Rattle.cedar_builders.specs.Ops.{Ops}
use Rattle.semantics_values.specs.BareValue.{BareCall}
use Rattle.semantics_values.specs.Laws.{BindsPlainValues}
use Rattle.semantics_eval.specs.Outcomes.{Outcome}
use Rattle.semantics_simplify.specs.Asks.{Ask, OfVar, OfUnknown, asks_only}
use Rattle.semantics_simplify.specs.Simplified.{Simplified, Known, Residual, tree_of, known_or}
use Rattle.semantics_request.specs.Requests.{value_of, Functions, Knowledge}
use Rattle.semantics_request.specs.Evaluator.{evaluated}
use Rattle.semantics_request.specs.Residuals.{known_variable, residual}
use Rattle.semantics_request.specs.Laws.{is_answered_or, ResidualAsksNoMore}
use Rattle.semantics_request.proofs.Asked.{Passing, passed}
use Rattle.semantics_request.proofs.Means.{Means}
use Rattle.semantics_request.proofs.Outcomes.{AskLaws, IsPlainTree, asks_nothing}
use Rattle.semantics_request.proofs.Residuals.{itself, before, after, known_agrees, meaning, answers, ops, unknown_left, bindings, left_means, store_truths}
use Rattle.semantics_simplify.specs.Sure.{Sure, sure_is, sure_other}
use Rattle.semantics_request.proofs.Values.{EvaluatorLaws}

-- no table is needed
abbrev no_functions : {X : Type 0} → Functions X
no_functions = record { call = λ n. None; compare = λ x y. None }

abbrev Passes : {X : Type 0} → (Ask → Bool) → Simplified X → Result (Outcome X) BareName → Type 0
Passes Q p r = Passing Q p

module _ {X : Type 0} {R : X → X → Ordering} {E : X → X → Bool} (laws : EvaluatorLaws R E)
    (asks : AskLaws X) (C : X → BareCall) (k : Knowledge X) (plain : BindsPlainValues C k.bindings)
    (Q : Ask → Bool) where
  abbrev made : Ops (Simplified X) ⊥
  made = ops laws asks C no_functions k k itself plain

  abbrev says : Text → Option BareType → Result (Outcome X) BareName
  says = meaning laws asks C no_functions k k itself plain

  tree_asks : (p : Simplified X) (r : Result (Outcome X) BareName)
      → Means laws C (after laws asks C no_functions k k itself plain) says p r → Passing Q p
      → asks_only Q (tree_of C p) ≡ true
  tree_asks (Known t) r m h = asks.ask_nothing C Q t (m.value t refl).0.plain
  tree_asks (Residual e) r m h = h

  var_passing : (m : Outcome X) (v : Variable) → (is_ok m || Q (OfVar v)) ≡ true
      → Passing Q (known_or (Var v) m)
  var_passing (Ok t) v h = tt
  var_passing (Err x) v h = and_from (Q (OfVar v)) true h refl

  -- a bound tree asks for nothing
  bound_passing : (r : BareType × BareExpr) → IsPlainTree C r.1 → (s : Result (Outcome X) BareName)
      → Sure (Passes Q) (fold_with made (own made) r.1) s
  bound_passing r p s =
      sure_other (Passing Q) (fold_with made (own made) r.1) _ s
      (passed laws asks C (before laws asks C no_functions k k itself plain)
      (after laws asks C no_functions k k itself plain)
      (known_agrees laws asks C no_functions k k itself plain)
      (store_truths R E no_functions k.request k.entities) says
      (answers laws asks C no_functions k k itself plain) (own made)
      (unknown_left laws asks C no_functions k k itself plain) (λ a. false) Q
      (λ v h. absurd (false≢true h)) (λ l h. absurd (false≢true h)) (λ n h. absurd (false≢true h))
      (λ n t h. absurd (false≢true h)) r.1 (asks_nothing asks C r.1 p))

  unknown_passing : (x : Option (BareType × BareExpr))
      → ((r : BareType × BareExpr) → x ≡ Some r → IsPlainTree C r.1)
      → (n : Text) (t : Option BareType) → (is_some x || Q (OfUnknown n t)) ≡ true
      → (s : Result (Outcome X) BareName) → Sure (Passes Q) (bound made x n t) s
  unknown_passing None p n t h s = and_from (Q (OfUnknown n t)) true h refl
  unknown_passing (Some r) p n t h s = bound_passing r (p r refl) s

  asked : (e : BareExpr) → asks_only (is_answered_or R E C k Q) e ≡ true
      → Sure (Passes Q) (fold made k.bindings e) (evaluated R E no_functions k e)
  asked =
      passed laws asks C (before laws asks C no_functions k k itself plain)
      (after laws asks C no_functions k k itself plain)
      (known_agrees laws asks C no_functions k k itself plain)
      (store_truths R E no_functions k.request k.entities) says
      (answers laws asks C no_functions k k itself plain)
      (λ n t. bound made (k.bindings n) n t)
      (λ n t. bindings laws asks C no_functions k k itself plain (k.bindings n) n t (λ r h. h))
      (is_answered_or R E C k Q) Q
      (λ v h. var_passing (known_variable R E C k (value_of k.request v)) v h) (λ l h. h)
      (λ n h. h) (λ n t h. unknown_passing (k.bindings n) (plain n) n t h (says n t))

pub asks_no_more : {X : Type 0} {R : X → X → Ordering} {E : X → X → Bool} → EvaluatorLaws R E
    → AskLaws X → ResidualAsksNoMore R E
asks_no_more {R = R} {E = E} laws asks C k plain Q e h =
    tree_asks laws asks C k plain Q (residual R E C k e) (evaluated R E no_functions k e)
    (left_means laws asks C no_functions k k itself plain e)
    (sure_is (Passes Q)
    (fold (made laws asks C k plain Q) k.bindings e) (evaluated R E no_functions k e)
    (asked laws asks C k plain Q e h))
