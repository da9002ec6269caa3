use Rattle.std.proofs.Common.{◌≡◌, length}
use Rattle.cedar_ancestors.proofs.levels.counts_of.Given as goal

abbrev pub invariant-loop-row : goal.invariant-loop-row
invariant-loop-row l = length l.counts.items ≡ length l.table
