use Rattle.cedar_exprs.specs.BareExpr.{bare_expr}
use Rattle.cedar_values.specs.Holders.{held_call, plain_env}
use Rattle.cedar_evaluator.proofs.ClosedOutcomes.{decided}
use Rattle.cedar_evaluator.proofs.evaluation.evaluate.Goals as goal

pub returns-clause-decided : goal.returns-clause-decided
returns-clause-decided c closed =
    let made = c.of_compact in
    let m = c.args.values.now in
    decided made.result _ (made.ensures _ c.try_into_expr_by.ensures)
    (c.never_open.ensures held_call (plain_env m)
    (c.maps_bind_plain_values.ensures m (c.no_extension_values.ensures.maps m))
    (bare_expr c.args.expr.now) closed)

pub returns-clause-outcome : goal.returns-clause-outcome
returns-clause-outcome c = c.of_compact.ensures _ c.try_into_expr_by.ensures
