use Rattle.std.proofs.Common.{◌≡◌, ◌<◌, length}
use Rattle.std.specs.List.{All}
use Rattle.cedar_ancestors.proofs.levels.ranks_of.Given as goal

abbrev pub invariant-loop-rank : goal.invariant-loop-rank
invariant-loop-rank l = record {
  counts : length l.counts.items ≡ length l.table;
  ranks : length l.ranks.items ≡ length l.table;
  work : All (λ x. x < length l.table) l.work.items;
}
