-- Where each function that is called is in the table, no call is refused.
use Rattle.std.proofs.Common.{◌≡◌, ◌≢◌, refl, sym, subst, Bool, true, List, Option, Some, None, Result, Err, is_some}
use Rattle.std.proofs.lemmas.Bool.{false≢true}
use Rattle.std.specs.declared.cmp.Ordering.{Ordering}
use Rattle.cedar_names.specs.Names.{BareName}
use Rattle.cedar_terms.specs.Types.{BareType}
use Rattle.cedar_builders.specs.BareExpr.{Text, BareExpr}
use Rattle.cedar_builders.specs.Environment.{own, bound}
use Rattle.cedar_builders.specs.Ops.{Ops}
use Rattle.semantics_values.specs.BareValue.{BareCall, BareValue}
use Rattle.semantics_eval.specs.Outcomes.{Mistake, Outcome}
use Rattle.semantics_request.specs.Evaluator.{call_by, request_ops, evaluated}
use Rattle.semantics_request.specs.Laws.{is_callable, NeverRefused}
use Rattle.semantics_request.proofs.Outcomes.{AskLaws, Any, IsAnswer, IsPlainTree, answered_where, has_meaning}
use Rattle.semantics_request.proofs.Related.{Never, Related, both_ok}

module _ {X : Type 0} where
  call_answered : (n : BareName) (x : Option (List (BareValue X) → Result (BareValue X) Mistake))
      → is_some x ≡ true → (ms ns : List (Outcome X))
      → Related Never Any (call_by n x ms) (call_by n x ns)
  call_answered n None h ms ns = absurd (false≢true h)
  call_answered n (Some f) h ms ns = both_ok tt

  bound_answered : AskLaws X → (C : X → BareCall) (B : Ops (Outcome X) BareName)
      (x : Option (BareType × BareExpr))
      → ((r : BareType × BareExpr) → x ≡ Some r → IsPlainTree C r.1)
      → (n : Text) (t : Option BareType) → IsAnswer (bound B x n t)
  bound_answered laws C B None plain n t = tt
  bound_answered laws C B (Some r) plain n t =
      subst IsAnswer (sym (has_meaning laws C r.1 (plain r refl) B (own B)).1) tt

  no_refusal : (r : Result (Outcome X) BareName) → IsAnswer r → (n : BareName) → r ≢ Err n
  no_refusal r h n e = subst IsAnswer e h

pub never_refused : {X : Type 0} (R : X → X → Ordering) (E : X → X → Bool) → AskLaws X
    → NeverRefused R E
never_refused R E laws C T k plain e called =
    let ops = request_ops R E T k.request k.entities in
    no_refusal (evaluated R E T k e)
    (answered_where laws.by_children (is_callable T) ops (λ n. call_answered n (T.call n))
    (λ n t. bound ops (k.bindings n) n t)
    (λ n t. bound_answered laws C ops (k.bindings n) (plain n) n t) e called)
