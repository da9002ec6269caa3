use Rattle.std.proofs.Common.{map}
use Rattle.cedar_exprs.specs.BareExpr.{bare_expr}
use Rattle.cedar_exprs.specs.PostOrder.{bare_tasks}
use Rattle.cedar_exprs.proofs.Running.{Fits, first_first, steps}
use Rattle.cedar_exprs.proofs.walks.post_order.run.Given as goal

-- the tasks that are left, and the results so far, make what the root gives
abbrev pub invariant-down : goal.invariant-down
invariant-down g l = Fits (g.W.PostOrder.answer l.walk) (bare_expr l.root) (first_first (bare_tasks l.tasks.items)) (map g.W.PostOrder.meaning_of l.done.items)

abbrev pub decreases-down : goal.decreases-down
decreases-down g l = steps (bare_tasks l.tasks.items)
