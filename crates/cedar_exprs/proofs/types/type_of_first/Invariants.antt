use Rattle.std.proofs.Common.{◌≡◌, ◌+◌, ◌≤◌}
use Rattle.cedar_builders.specs.Count.{count, total}
use Rattle.cedar_validation.specs.Branches.{type_of_all}
use Rattle.cedar_validation.specs.TypeOfTree.{type_of_tree}
use Rattle.cedar_exprs.specs.BareExpr.{bare_expr}
use Rattle.cedar_exprs.specs.Waiting.{bare_waiting}
use Rattle.cedar_exprs.proofs.types.type_of_first.Given as goal

-- the branch that was reached, and those that wait, have the type of all, and no more nodes
abbrev pub invariant-down : goal.invariant-down
invariant-down g l =
    let return_type_at = g.F.FunctionTable.return_type_at l.table in
    (type_of_all return_type_at (type_of_tree return_type_at (bare_expr l.reached)) (bare_waiting l.waiting.items)
    ≡ type_of_all return_type_at (type_of_tree return_type_at (bare_expr l.expr)) (bare_waiting l.initial.waiting.items))
    × (total (bare_waiting l.waiting.items) + count (bare_expr l.reached) ≤ total (bare_waiting l.initial.waiting.items) + count (bare_expr l.expr))

abbrev pub decreases-down : goal.decreases-down
decreases-down g l = count (bare_expr l.reached)
