use Rattle.std.proofs.Common.{◌≡◌, ◌++◌, map}
use Rattle.std.specs.Vec.Iter.{into_iter_items}
use Rattle.cedar_sketch.specs.SketchTexts.{joined, spaced_text, text_of}
use Rattle.cedar_sketch.proofs.OpenList.push_all.Given as goal

-- what is in the list, and then the rest
abbrev pub invariant-loop-part : goal.invariant-loop-part
invariant-loop-part l =
    joined l.self ++ spaced_text (map text_of (into_iter_items l.part-iterator)) ≡ joined l.initial.self ++ spaced_text (map text_of l.fn.parts.items)
