use Rattle.std.proofs.Common.{◌≡◌, ◌++◌, map, take}
use Rattle.std.specs.Rc.{rc_str_bytes}
use Rattle.cedar_terms.specs.Escape.{quoted}
use Rattle.cedar_sketch.specs.SketchTexts.{joined, spaced_text}
use Rattle.cedar_sketch.proofs.OpenList.push_attributes.Given as goal

-- what was there, and each attribute so far
abbrev pub invariant-loop-attribute : goal.invariant-loop-attribute
invariant-loop-attribute l =
    joined l.self ≡ joined l.initial.self ++ spaced_text (map quoted (map rc_str_bytes (take l.attribute-index l.attributes)))
