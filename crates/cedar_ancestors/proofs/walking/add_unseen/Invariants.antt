use Rattle.std.proofs.Common.{take}
use Rattle.cedar_ancestors.specs.Marks.{IsMarked, IsAdded}
use Rattle.cedar_ancestors.proofs.walking.add_unseen.Given as goal

abbrev pub invariant-loop-item : goal.invariant-loop-item
invariant-loop-item l = record {
  marked : IsMarked l.seen l.found.items;
  added : IsAdded (take l.item-index l.items) l.initial.found.items l.found.items;
}
