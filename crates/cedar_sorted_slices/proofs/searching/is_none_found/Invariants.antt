use Rattle.std.proofs.Common.{take}
use Rattle.std.specs.List.Sorted.{IsStrictlySortedBy}
use Rattle.cedar_sorted_slices.specs.Classes.{HaveNoneInCommon}
use Rattle.cedar_sorted_slices.proofs.searching.is_none_found.Given as goal

abbrev pub invariant-loop-item : goal.invariant-loop-item
invariant-loop-item g l = IsStrictlySortedBy g.T.Ord.cmp l.others → HaveNoneInCommon g.T.Ord.cmp (take l.item-index l.items) l.others
