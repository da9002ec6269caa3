use Rattle.std.proofs.Common.{◌≡◌, map, max}
use Rattle.std.specs.Vec.Iter.{into_iter_items}
use Rattle.cedar_ast.specs.Keys.{meant_pairs}
use Rattle.example_policy_text.specs.TreeDepth.{deepest}
use Rattle.example_policy_text.proofs.depth.TreeDepthExprBuilder.record.Given as goal

-- the greatest so far, or of the rest
abbrev pub invariant-loop-key : goal.invariant-loop-key
invariant-loop-key l =
    max l.greatest (deepest (map (λ pair. pair.1) (meant_pairs (λ depth. depth) (into_iter_items l._key-iterator))))
    ≡ deepest (map (λ pair. pair.1) (meant_pairs (λ depth. depth) l.fn.pairs.items))
