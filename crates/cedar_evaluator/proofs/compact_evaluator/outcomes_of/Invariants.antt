use Rattle.std.proofs.Common.{◌≡◌, ◌++◌, map}
use Rattle.std.specs.Vec.Iter.{into_iter_items}
use Rattle.cedar_evaluator.specs.Compact.{compact_meaning}
use Rattle.cedar_evaluator.specs.Outcomes.{meaning_of}
use Rattle.cedar_evaluator.proofs.compact_evaluator.outcomes_of.Given as goal

-- the outcomes so far, and then those of the rest
abbrev pub invariant-loop-compact : goal.invariant-loop-compact
invariant-loop-compact l =
    map compact_meaning l.fn.row.items
    ≡ map meaning_of l.outcomes.items ++ map compact_meaning (into_iter_items l.compact-iterator)
