use Rattle.std.proofs.Common.{take}
use Rattle.cedar_sorted_slices.specs.Classes.{IsPartOf}
use Rattle.cedar_ancestors.proofs.collecting.add_clones.Given as goal

abbrev pub invariant-loop-key : goal.invariant-loop-key
invariant-loop-key g l = record {
  kept : IsPartOf g.K.Ord.cmp l.initial.keys.keys l.keys.keys;
  added : IsPartOf g.K.Ord.cmp (take l.key-index l.more) l.keys.keys;
}
