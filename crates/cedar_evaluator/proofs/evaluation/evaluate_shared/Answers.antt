use Rattle.cedar_exprs.specs.BareExpr.{bare_expr}
use Rattle.cedar_values.specs.Holders.{held_call}
use Rattle.cedar_values.specs.WellFormedValues.{well_formed_env}
use Rattle.cedar_evaluator.proofs.ClosedOutcomes.{decided}
use Rattle.cedar_evaluator.proofs.evaluation.evaluate_shared.Goals as goal

pub returns-clause-decided : goal.returns-clause-decided
returns-clause-decided c closed =
    let made = c.of_compact in
    let m = c.args.values.now in
    decided made.result _ (made.ensures _ c.try_into_expr_by.ensures)
    (c.never_open.ensures held_call (well_formed_env m)
    (c.well_formed_maps_bind_plain_values.ensures _ _ _ m)
    (bare_expr c.args.expr.now) closed)

pub returns-clause-outcome : goal.returns-clause-outcome
returns-clause-outcome c = c.of_compact.ensures _ c.try_into_expr_by.ensures
