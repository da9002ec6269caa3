use Rattle.std.proofs.Common.{◌+◌, arith, subst, suc, ap}
use Rattle.cedar_values.specs.Drops.{row_nodes, IsStep, waiting_nodes}
use Rattle.cedar_values.proofs.Fewer.{row_set}
use Rattle.cedar_values.proofs.dropping.enter_members.Goals as goal

pub returns-in-Some : goal.returns-in-Some
returns-in-Some g c =
    let whole = ap (λ v. row_nodes v.items) c.in-Some.ensures.value in
    let set = row_set c.of_row.result _ c.of_row.ensures in
    subst (λ m. IsStep (suc m) (suc m + waiting_nodes c.args.waiting) c.enter_item.result) whole (c.enter_item.ensures _ _ _ c.take_member.ensures set)

pub returns-in-None : goal.returns-in-None
returns-in-None g c =
    let set = row_set c.of_row-in-None.result _ c.of_row-in-None.ensures in
    c.enter_item-in-None.ensures (row_nodes c.args.row.value.items) (waiting_nodes c.args.waiting) _ (omega arith) set
