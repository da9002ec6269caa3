use Rattle.std.proofs.Common.{◌≡◌, ◌++◌}
use Rattle.std.specs.Vec.Iter.{into_iter_items}
use Rattle.cedar_builders.specs.Keys.{keys_of, meant_pairs}
use Rattle.cedar_evaluator.specs.Compact.{compact_meaning}
use Rattle.cedar_evaluator.specs.Outcomes.{meaning_of}
use Rattle.cedar_evaluator.proofs.compact_evaluator.pairs_of.Given as goal

-- the keys and the outcomes so far, and then those of the rest
abbrev pub invariant-loop-key : goal.invariant-loop-key
invariant-loop-key l =
    (keys_of l.fn.row.items ≡ keys_of l.pairs.items ++ keys_of (into_iter_items l.key-iterator))
    × (meant_pairs compact_meaning l.fn.row.items
    ≡ meant_pairs meaning_of l.pairs.items
    ++ meant_pairs compact_meaning (into_iter_items l.key-iterator))
