use Rattle.std.proofs.Common.{subst}
use Rattle.cedar_exprs.specs.BareExpr.{bare_expr}
use Rattle.cedar_exprs.specs.PostOrder.{IsAnswer}
use Rattle.cedar_values.specs.WellFormedValues.{well_formed_env}
use Rattle.cedar_request_evaluator.specs.Bound.{kept_in}
use Rattle.cedar_request_evaluator.proofs.Kept.{same_tree}
use Rattle.cedar_request_evaluator.proofs.bound.post_order_with_values.Goals as goal

pub returns : goal.returns
returns g c =
    subst (λ r. IsAnswer g.W.ValueWalk.meaning_of g.W.ValueWalk.fault_of r c.post_order.result)
    (same_tree (g.W.ValueWalk.ops c.args.walk.now) g.W.ValueWalk.value_meaning
    (well_formed_env c.args.values.now) (kept_in c.in_ok-kept.kept) c.in_ok-kept.ensures
    (bare_expr c.args.expr.now)) c.post_order.ensures
