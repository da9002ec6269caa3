use Rattle.std.proofs.Common.{take}
use Rattle.cedar_sorted_slices.specs.Classes.{has_class}
use Rattle.cedar_ancestors.specs.Keyed.{IsRowBy}
use Rattle.cedar_ancestors.proofs.keyed.indexes_of.Given as goal

abbrev pub invariant-loop-parent : goal.invariant-loop-parent
invariant-loop-parent g l = IsRowBy (has_class g.K.Ord.cmp (take l.parent-index l.parents)) l.keys.keys l.row.items
