use Rattle.cedar_ancestors.proofs.Covering.{IsCovering}
use Rattle.cedar_ancestors.proofs.collecting.keys_of.Given as goal

abbrev pub invariant-loop-child : goal.invariant-loop-child
invariant-loop-child g l = IsCovering g.K.Ord.cmp g.V.HasParents.parents_of l.parents.entries l.child-iterator l.keys.keys
