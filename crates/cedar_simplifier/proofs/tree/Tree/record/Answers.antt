use Rattle.std.proofs.Common.{refl, ◌∙◌}
use Rattle.cedar_simplifier.proofs.Nodes.{of_children}
use Rattle.cedar_simplifier.proofs.RecordNodes.{record_all}
use Rattle.cedar_simplifier.proofs.tree.Tree.record.Goals as goal

pub invariant_of-result : goal.invariant_of-result
invariant_of-result c = record {
  kept =
      of_children c.asks_by_children.ensures _ _ c.in_ok-expr.ensures.made.tree refl _ refl _
      (c.args.fields.kept
      ∙ record_all c.deref.result.now c.args.fields.pairs.items c.deref.ensures.value
      c.pairs_in_key_order.ensures c.in_ok-expr.ensures.distinct);
}
