use Rattle.std.proofs.Common.{◌≡◌, ◌++◌, length}
use Rattle.std.specs.Slice.Iter.{iter_rest}
use Rattle.cedar_exprs.specs.Waiting.{next_first}
use Rattle.cedar_exprs.proofs.walks.not_restricted.push_row.Given as goal

-- what is left, and what waits, make the whole
abbrev pub invariant-left : goal.invariant-left
invariant-left g l = iter_rest l.left ++ next_first l.waiting.items ≡ l.row ++ next_first l.initial.waiting.items

abbrev pub decreases-left : goal.decreases-left
decreases-left g l = length (iter_rest l.left)
