use Rattle.std.proofs.Common.{◌<◌, length, take}
use Rattle.std.specs.List.{All}
use Rattle.cedar_ancestors.proofs.closure.is_within.Given as goal

abbrev pub invariant-loop-row : goal.invariant-loop-row
invariant-loop-row l = All (λ row. All (λ y. y < length l.table) row.items) (take l.row-index l.table)
