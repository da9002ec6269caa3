use Rattle.std.proofs.Common.{sym, ◌∙◌, ap}
use Rattle.cedar_builders.specs.Keys.{keyed, are_distinct}
use Rattle.cedar_builders.proofs.DistinctKeys.{keys-keyed}
use Rattle.cedar_builders.proofs.InOrder as laws
use Rattle.cedar_builders.proofs.laws.pairs_in_key_order.Goals as goal

pub returns : goal.returns
returns g c = λ distinct.
    let pairs = c.args.pairs.now in
    laws.pairs_in_key_order (keyed pairs) (sym (ap are_distinct (keys-keyed pairs)) ∙ distinct)
