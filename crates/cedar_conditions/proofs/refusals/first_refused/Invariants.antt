use Rattle.cedar_conditions.proofs.Refusing.{NoneRefused}
use Rattle.cedar_conditions.proofs.refusals.first_refused.Given as goal

-- none of those so far is refused
abbrev pub invariant-loop-node : goal.invariant-loop-node
invariant-loop-node l = NoneRefused l.node-index l.nodes
