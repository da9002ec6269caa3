use Rattle.std.proofs.Common.{arith, ap, ◌∙◌, subst, Ok}
use Rattle.cedar_iterative_drop.specs.Rows.{IsPut}
use Rattle.cedar_iterative_drop.specs.Sums.{with_last}
use Rattle.cedar_values.specs.Counts.{kind_nodes}
use Rattle.cedar_values.specs.Drops.{waiting_nodes}
use Rattle.cedar_values.proofs.row_items.take_member.Goals as goal

pub returns-in-Ok-None : goal.returns-in-Ok-None
returns-in-Ok-None g c =
    let waits = ap waiting_nodes c.in-Some.is in
    let put = subst (IsPut kind_nodes _ _ _) (c.in-Ok-None.is ∙ ap Ok c.in-Ok-None.field-0-is) c.put_first.ensures in
    let last = with_last kind_nodes c.last_branch.result _ _ c.last_branch.ensures.taken c.last_branch.ensures.fewer in
    c.after_leaf.ensures.fewer kind_nodes _ _ _ (omega (arith, waits, put, last))
