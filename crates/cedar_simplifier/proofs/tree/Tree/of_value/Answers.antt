use Rattle.std.proofs.Common.{ap, sym, not, ◌∙◌}
use Rattle.cedar_values.specs.BareValues.{bare_value}
use Rattle.semantics_simplify.specs.Asks.{holds_no_call}
use Rattle.cedar_simplifier.proofs.ValueCalls.{value_calls}
use Rattle.cedar_simplifier.proofs.tree.Tree.of_value.Goals as goal

pub invariant_of-result : goal.invariant_of-result
invariant_of-result g c = record {
  kept =
      ap not c.in_ok-holds_call.ensures
      ∙ sym (ap holds_no_call c.in_ok-expr.ensures.tree
      ∙ value_calls c.asks_by_children.ensures g.X.ExtensionValue.canonical
      (bare_value c.args.value.now));
}
