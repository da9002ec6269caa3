use Rattle.std.proofs.Common.{◌≡◌, ℕ, ◌<◌, [], length}
use Rattle.cedar_ancestors.specs.Marks.{IsMarked}
use Rattle.cedar_ancestors.specs.Tables.{IsAbove}
use Rattle.cedar_ancestors.proofs.levels.first_cycle.Given as goal

abbrev pub invariant-loop-index : goal.invariant-loop-index
invariant-loop-index l = record {
  marked : IsMarked l.seen.items [];
  long : length l.seen.items ≡ length l.table;
  acyclic : (k : ℕ) → k < l.index-counter → IsAbove l.table k k → ⊥;
}
