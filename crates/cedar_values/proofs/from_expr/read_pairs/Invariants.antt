use Rattle.std.proofs.Common.{◌≡◌, ◌≤◌, length}
use Rattle.cedar_values.specs.RowsRead.{IsRecordRead, pair_nodes}
use Rattle.cedar_values.proofs.from_expr.read_pairs.Given as goal

-- the values so far are read, and what is left is no more than it was
abbrev pub invariant-each : goal.invariant-each
invariant-each g l =
    IsRecordRead g.X.Ord.cmp l.row.expr.now l.row.values.entries l.row.rest
    × (l.row.expr.now ≡ l.initial.row.expr.now)
    × (pair_nodes l.row.rest ≤ pair_nodes l.initial.row.rest)

abbrev pub decreases-each : goal.decreases-each
decreases-each g l = length l.row.rest
