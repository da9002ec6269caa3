use Rattle.std.proofs.Common.{◌+◌, arith, subst, suc, refl, ap}
use Rattle.cedar_values.specs.Drops.{entry_nodes, IsStep, waiting_nodes}
use Rattle.cedar_values.proofs.Fewer.{record_nodes, written_record}
use Rattle.cedar_values.proofs.dropping.enter_pairs.Goals as goal

pub returns-in-Some : goal.returns-in-Some
returns-in-Some g c =
    let whole = ap (λ m. entry_nodes m.entries) c.in-Some.ensures.value in
    let record_of = written_record c.args.row c.take_value.new.pairs in
    subst (λ m. IsStep (suc m) (suc m + waiting_nodes c.args.waiting) c.enter_item.result) whole (c.enter_item.ensures _ _ _ c.take_value.ensures record_of)

pub returns-in-None : goal.returns-in-None
returns-in-None g c =
    c.enter_item-in-None.ensures (entry_nodes c.args.row.value.entries) (waiting_nodes c.args.waiting) _ (omega arith) (record_nodes _ c.args.row refl)
