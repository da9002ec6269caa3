use Rattle.cedar_exprs.proofs.KeyedValues.{ascending_pairs}
use Rattle.std.proofs.Common.{◌≡◌, [], rules}
use Rattle.cedar_exprs.proofs.substitution.substitute.substitute_values.Goals as goal

pub returns-clause-ascending : goal.returns-clause-ascending
returns-clause-ascending g c =
    let none : c.loop-key.key-iterator ≡ [] = search rules in
    ascending_pairs c.loop-key.done.items c.args.pairs.now.entries c.loop-key.key-iterator c.loop-key.invariant.0 none c.iter-key-items.ensures.ordered
