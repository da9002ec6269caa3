use Rattle.std.proofs.Common.{subst}
use Rattle.cedar_exprs.specs.BareExpr.{bare_expr}
use Rattle.cedar_conditions.specs.Nodes.{AreNodesOf}
use Rattle.cedar_conditions.proofs.Refusing.{judged_by_nodes}
use Rattle.cedar_conditions.proofs.refusals.refused_tree.Goals as goal

pub returns-in-Ok : goal.returns-in-Ok
returns-in-Ok c =
    let text = c.args.text.now in
    let e = bare_expr c.args.expr.now in
    judged_by_nodes text e c.in-Ok.nodes c.deref.result.now c.first_refused.result
    (subst (AreNodesOf text e) c.in-Ok.is c.in_ok-nodes.ensures) c.deref.ensures.value
    c.first_refused.ensures
