use Rattle.std.proofs.Common.{◌≡◌, ◌++◌, map}
use Rattle.std.specs.Vec.Iter.{into_iter_items}
use Rattle.cedar_builders.specs.Keys.{meant_pairs}
use Rattle.cedar_sketch.specs.SketchTexts.{joined, pair_text, spaced_text, text_of}
use Rattle.cedar_sketch.proofs.OpenList.push_pairs.Given as goal

-- what is in the list, and then the rest
abbrev pub invariant-loop-key : goal.invariant-loop-key
invariant-loop-key l =
    joined l.self ++ spaced_text (map pair_text (meant_pairs text_of (into_iter_items l.key-iterator))) ≡ joined l.initial.self ++ spaced_text (map pair_text (meant_pairs text_of l.fn.pairs.items))
