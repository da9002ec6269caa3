use Rattle.std.proofs.Common.{◌≡◌, max}
use Rattle.std.specs.Vec.Iter.{into_iter_items}
use Rattle.example_policy_text.specs.TreeDepth.{deepest}
use Rattle.example_policy_text.proofs.depth.greatest.Given as goal

-- the greatest so far, or of the rest
abbrev pub invariant-loop-depth : goal.invariant-loop-depth
invariant-loop-depth l =
    max l.greatest (deepest (into_iter_items l.depth-iterator)) ≡ deepest l.fn.depths.items
