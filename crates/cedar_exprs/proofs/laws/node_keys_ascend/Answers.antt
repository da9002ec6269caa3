use Rattle.std.proofs.Common.{sym, ◌∙◌}
use Rattle.cedar_exprs.proofs.KeyOrder.{record_ascends}
use Rattle.cedar_exprs.proofs.laws.node_keys_ascend.Goals as goal

pub returns-in-Record : goal.returns-in-Record
returns-in-Record g c =
    record_ascends c.args.expr.now c.in-Record.pairs _ (sym c.expr_kind.ensures ∙ c.in-Record.is) c.deref.ensures c.values.ensures.ordered
