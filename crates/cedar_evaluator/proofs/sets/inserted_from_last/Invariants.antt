use Rattle.std.proofs.Common.{◌≡◌, length}
use Rattle.cedar_values.specs.Sets.{by_tree}
use Rattle.semantics_eval.specs.Rows.{ascending_list}
use Rattle.cedar_evaluator.proofs.Lists.{inserted_from_last}
use Rattle.cedar_evaluator.proofs.sets.inserted_from_last.Given as goal

-- the members so far, with the rest inserted
abbrev pub invariant-loop-value : goal.invariant-loop-value
invariant-loop-value g l =
    let R = by_tree g.X.Ord.cmp in
    ascending_list R l.fn.values.items ≡ inserted_from_last R l.values.items l.members.keys

abbrev pub decreases-loop-value : goal.decreases-loop-value
decreases-loop-value g l = length l.values.items
