use Rattle.std.proofs.Common.{arith}
use Rattle.cedar_ancestors.proofs.Falling.{acyclic_from_falls}
use Rattle.cedar_ancestors.proofs.levels.all_fall.Goals as goal

pub returns : goal.returns
returns c = λ _. acyclic_from_falls c.args.table.now c.args.ranks.now c.loop-index.index (omega arith) c.loop-index.invariant
