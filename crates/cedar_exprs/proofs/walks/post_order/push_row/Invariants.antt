use Rattle.std.proofs.Common.{◌≡◌, ◌++◌, length}
use Rattle.std.specs.Slice.Iter.{iter_rest}
use Rattle.cedar_exprs.specs.PostOrder.{last_first, bare_tasks}
use Rattle.cedar_exprs.proofs.walks.post_order.push_row.Given as goal

-- what was pushed, and what is left, make the whole
abbrev pub invariant-left : goal.invariant-left
invariant-left g l =
    bare_tasks l.tasks.items ++ last_first (iter_rest l.left)
    ≡ bare_tasks l.initial.tasks.items ++ last_first l.row

abbrev pub decreases-left : goal.decreases-left
decreases-left g l = length (iter_rest l.left)
