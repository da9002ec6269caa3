use Rattle.std.proofs.Common.{◌+◌, ◌*◌}
use Rattle.cedar_values.specs.RowsRead.{step_left}
use Rattle.cedar_values.proofs.RowsRead.{IsCourse, turns}
use Rattle.cedar_values.proofs.from_expr.value_of.Given as goal

-- what comes next, and all that waits for it
abbrev pub invariant-walk : goal.invariant-walk
invariant-walk g l = IsCourse g.X.Ord.cmp l.waiting.items l.step l.expr

abbrev pub decreases-walk : goal.decreases-walk
decreases-walk g l = turns l.waiting.items + 2 * step_left l.step
