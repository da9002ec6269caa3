use Rattle.std.proofs.Common.{◌≡◌, ◌<◌, length}
use Rattle.cedar_exprs.specs.Children.{children_left}
use Rattle.cedar_exprs.specs.NotRestricted.{first_not_restricted, first_not_restricted_of}
use Rattle.cedar_exprs.proofs.WalkSteps.{counted}
use Rattle.cedar_exprs.specs.Walks.{preorder}
use Rattle.cedar_exprs.proofs.walks.not_restricted.+first_by_calls.Given as goal

-- the number of positions
abbrev pub decreases-first_by_calls : goal.decreases-first_by_calls
decreases-first_by_calls g l = length (preorder l.expr.now)

-- the children that are left have the answer of all, and fewer positions
abbrev pub invariant-loop-child : goal.invariant-loop-child
invariant-loop-child g l =
    (goal.iterator-loop-child g).can_next l.child-iterator
    × (goal.iterator-loop-child g).is_finite l.child-iterator
    × (first_not_restricted_of (children_left l.child-iterator) ≡ first_not_restricted l.expr)
    × (counted (children_left l.child-iterator) < length (preorder l.expr))
