use Rattle.std.proofs.Common.{take}
use Rattle.std.specs.List.Sorted.{IsStrictlySortedBy}
use Rattle.cedar_sorted_slices.specs.Classes.{IsPartOf}
use Rattle.cedar_sorted_slices.proofs.searching.are_all_found.Given as goal

abbrev pub invariant-loop-item : goal.invariant-loop-item
invariant-loop-item g l = IsStrictlySortedBy g.T.Ord.cmp l.others → IsPartOf g.T.Ord.cmp (take l.item-index l.items) l.others
