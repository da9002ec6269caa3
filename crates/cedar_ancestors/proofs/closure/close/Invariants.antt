use Rattle.std.proofs.Common.{◌≡◌, [], length}
use Rattle.cedar_ancestors.specs.Marks.{IsMarked}
use Rattle.cedar_ancestors.proofs.Closing.{AreClosed}
use Rattle.cedar_ancestors.proofs.closure.close.Given as goal

abbrev pub invariant-loop-index : goal.invariant-loop-index
invariant-loop-index l = record {
  marked : IsMarked l.seen.items [];
  long : length l.seen.items ≡ length l.table;
  many : length l.rows.items ≡ l.index;
  closed : AreClosed l.table l.index l.rows.items;
}
