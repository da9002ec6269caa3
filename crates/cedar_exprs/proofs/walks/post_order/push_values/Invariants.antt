use Rattle.std.proofs.Common.{◌≡◌, ◌++◌, map, length}
use Rattle.cedar_exprs.specs.PostOrder.{last_first, bare_tasks}
use Rattle.cedar_exprs.proofs.walks.post_order.push_values.Given as goal

-- what was pushed, and what is left, make the whole
abbrev pub invariant-values : goal.invariant-values
invariant-values g l =
    bare_tasks l.tasks.items ++ last_first l.values
    ≡ bare_tasks l.initial.tasks.items ++ last_first (map (λ e. e.1) l.pairs.entries)

abbrev pub decreases-values : goal.decreases-values
decreases-values g l = length l.values
