use Rattle.std.proofs.Common.{◌≡◌, ◌∷◌}
use Rattle.cedar_exprs.specs.NotRestricted.{first_not_restricted, first_not_restricted_of}
use Rattle.cedar_exprs.specs.Waiting.{next_first}
use Rattle.cedar_exprs.proofs.WalkSteps.{counted}
use Rattle.cedar_exprs.proofs.walks.not_restricted.first_by_loop.Given as goal

-- the node that was reached, and what waits, have the answer of all
abbrev pub invariant-down : goal.invariant-down
invariant-down g l = first_not_restricted_of (l.reached ∷ next_first l.waiting.items) ≡ first_not_restricted l.expr

abbrev pub decreases-down : goal.decreases-down
decreases-down g l = counted (l.reached ∷ next_first l.waiting.items)
