use Rattle.std.proofs.Common.{◌≡◌}
use Rattle.cedar_builders.specs.Walks.{need}
use Rattle.cedar_exprs.specs.BareExpr.{bare_expr}
use Rattle.cedar_exprs.specs.Entries.{all_entries, nodes_left}
use Rattle.cedar_exprs.proofs.walks.entries.entries.Given as goal

-- what was counted and what is left make the answer
abbrev pub invariant-walk : goal.invariant-walk
invariant-walk g l = all_entries l.count ≡ need (bare_expr l.expr)

abbrev pub decreases-walk : goal.decreases-walk
decreases-walk g l = nodes_left l.count.left.items
