use Rattle.std.proofs.Common.{◌<◌, ◌≤◌, length, ⊎_elim, arith}
use Rattle.std.proofs.lemmas.Bool.{cases_lt}
use Rattle.cedar_ancestors.proofs.Closing.{none_above_past}
use Rattle.cedar_ancestors.proofs.levels.first_cycle.Goals as goal

pub returns : goal.returns
returns c = λ x h. ⊎_elim
    (λ (lt : x < length c.args.table.now). c.loop-index.invariant.acyclic x (omega arith) h)
    (λ (le : length c.args.table.now ≤ x). none_above_past c.args.table.now le h)
    (cases_lt x (length c.args.table.now))
