use Rattle.std.proofs.Common.{◌≡◌, ◌-◌, length}
use Rattle.cedar_ancestors.specs.Marks.{IsMarked}
use Rattle.cedar_ancestors.specs.Tables.{IsInRow}
use Rattle.cedar_ancestors.proofs.Closing.{IsClosing}
use Rattle.cedar_ancestors.proofs.walking.above.Given as goal

abbrev pub invariant-loop-next : goal.invariant-loop-next
invariant-loop-next l = record {
  closing : IsClosing (IsInRow l.table) l.index l.next l.found.items;
  marked : IsMarked l.seen l.found.items;
  long : length l.seen ≡ length l.table;
}

abbrev pub decreases-loop-next : goal.decreases-loop-next
decreases-loop-next l = length l.seen - l.next
