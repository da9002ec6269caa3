use Rattle.std.proofs.Common.{refl, sym, ◌∙◌}
use Rattle.cedar_exprs.specs.BareExpr.{bare_expr}
use Rattle.cedar_simplifier.proofs.Nodes.{of_children, members_all}
use Rattle.cedar_simplifier.proofs.tree.Tree.set.Goals as goal

pub invariant_of-result : goal.invariant_of-result
invariant_of-result c = record {
  kept =
      of_children c.asks_by_children.ensures _ _ c.in_ok-expr.ensures.tree refl _ refl _
      (c.args.members.kept ∙ sym (members_all bare_expr c.args.members.exprs.items));
}
