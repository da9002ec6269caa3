use Rattle.std.proofs.Common.{map}
use Rattle.cedar_conditions.proofs.Pushing.{ArePushedWith}
use Rattle.cedar_conditions.proofs.size.push_values.Given as goal

-- what is behind the nodes, and what is left, make the whole
abbrev pub invariant-loop-value : goal.invariant-loop-value
invariant-loop-value l =
    ArePushedWith l.depth l.value-iterator (map (λ e. e.1) l.pairs.entries)
    l.initial.nodes.items l.nodes.items
