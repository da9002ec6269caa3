use Rattle.std.proofs.Common.{map}
use Rattle.cedar_exprs.specs.BareExpr.{bare_expr}
use Rattle.cedar_conditions.specs.Nodes.{shown}
use Rattle.cedar_conditions.proofs.Waiting.{IsSoFar}
use Rattle.cedar_conditions.proofs.size.nodes_of.Given as goal

-- those so far were seen, and the others wait
abbrev pub invariant-loop-at : goal.invariant-loop-at
invariant-loop-at l = IsSoFar (bare_expr l.expr) l.at (map shown l.nodes.items)
