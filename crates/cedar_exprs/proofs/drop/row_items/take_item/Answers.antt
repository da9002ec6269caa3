use Rattle.std.proofs.Common.{arith, ap, ◌∙◌, subst, Ok}
use Rattle.cedar_iterative_drop.specs.Rows.{IsPut}
use Rattle.cedar_iterative_drop.specs.Sums.{with_last}
use Rattle.cedar_exprs.specs.Steps.{below_nodes, if_row}
use Rattle.cedar_exprs.proofs.drop.row_items.take_item.Goals as goal

pub returns-in-Ok-None : goal.returns-in-Ok-None
returns-in-Ok-None g c =
    let waits = ap if_row c.in-Some.is in
    let put = subst (IsPut below_nodes _ _ _) (c.in-Ok-None.is ∙ ap Ok c.in-Ok-None.field-0-is) c.put_first.ensures in
    let last = with_last below_nodes c.last_branch.result _ _ c.last_branch.ensures.taken c.last_branch.ensures.fewer in
    c.after_leaf.ensures.fewer below_nodes _ _ _ (omega (arith, waits, put, last))
