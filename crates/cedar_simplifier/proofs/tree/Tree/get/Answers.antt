use Rattle.std.proofs.Common.{refl}
use Rattle.cedar_exprs.specs.BareExpr.{bare_expr}
use Rattle.cedar_simplifier.proofs.Nodes.{of_one}
use Rattle.cedar_simplifier.proofs.tree.Tree.get.Goals as goal

pub invariant_of-result : goal.invariant_of-result
invariant_of-result c = record {
  kept =
      of_one c.asks_by_children.ensures _ _ c.in_ok-expr.ensures.tree refl
      (bare_expr c.args.arg.expr) refl _ c.args.arg.kept;
}
