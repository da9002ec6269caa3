use Rattle.std.proofs.Common.{◌+◌, length}
use Rattle.std.specs.List.Sorted.{IsStrictlySortedBy}
use Rattle.cedar_sorted_slices.specs.Classes.{IsPartOf}
use Rattle.cedar_sorted_slices.proofs.FirstItems.{IsLeft}
use Rattle.cedar_sorted_slices.proofs.merging.is_part_of.Given as goal

abbrev pub invariant-loop-item : goal.invariant-loop-item
invariant-loop-item g l =
    let R = g.T.Ord.cmp in
    IsStrictlySortedBy R l.fn.items → IsStrictlySortedBy R l.fn.others
    → IsLeft R (IsPartOf R) (IsPartOf R l.fn.items l.fn.others) l.items l.others

abbrev pub decreases-loop-item : goal.decreases-loop-item
decreases-loop-item g l = length l.items + length l.others
