use Rattle.std.proofs.Common.{◌≡◌, ◌≤◌, length}
use Rattle.std.specs.Slice.Iter.{iter_rest}
use Rattle.cedar_values.specs.RowsRead.{IsSetRead, expr_nodes}
use Rattle.cedar_values.proofs.from_expr.read_members.Given as goal

-- the members so far are read, and what is left is no more than it was
abbrev pub invariant-each : goal.invariant-each
invariant-each g l =
    IsSetRead g.X.Ord.cmp l.row.expr.now l.row.values.items (iter_rest l.row.rest)
    × (l.row.expr.now ≡ l.initial.row.expr.now)
    × (expr_nodes (iter_rest l.row.rest) ≤ expr_nodes (iter_rest l.initial.row.rest))

abbrev pub decreases-each : goal.decreases-each
decreases-each g l = length (iter_rest l.row.rest)
