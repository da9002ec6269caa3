use Rattle.std.proofs.Common.{◌+◌, arith, subst, suc, refl, ap}
use Rattle.cedar_exprs.specs.Steps.{if_node, if_row, item_nodes, IsStep}
use Rattle.cedar_exprs.proofs.drop.dropping.open_items.Goals as goal

pub returns-in-Some : goal.returns-in-Some
returns-in-Some g c =
    let whole = ap (λ v. item_nodes v.items) c.in-Some.ensures.value in
    subst (λ m. IsStep (suc m) (suc m + (if_node c.args.waiting + if_row c.args.rows)) c.enter_item.result) whole (c.enter_item.ensures _ _ _ c.take_item.ensures refl)

pub returns-in-None : goal.returns-in-None
returns-in-None g c = c.enter_item-in-None.ensures (item_nodes c.args.items.value.items) (if_row c.args.rows) _ (omega arith) refl
