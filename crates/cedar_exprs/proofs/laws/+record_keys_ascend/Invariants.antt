use Rattle.std.proofs.Common.{◌<◌, length}
use Rattle.cedar_builders.specs.AscendingKeys.{KeysAscend}
use Rattle.cedar_exprs.specs.BareExpr.{bare_expr}
use Rattle.cedar_exprs.specs.Children.{children_left}
use Rattle.cedar_exprs.specs.Walks.{preorder}
use Rattle.cedar_exprs.proofs.WalkSteps.{counted}
use Rattle.cedar_exprs.proofs.RecordKeys.{AscendIn}
use Rattle.cedar_exprs.proofs.laws.+record_keys_ascend.Given as goal

-- the number of positions
abbrev pub decreases-record_keys_ascend : goal.decreases-record_keys_ascend
decreases-record_keys_ascend g l = length (preorder l.expr.now)

-- where the keys ascend in the children that are left, they ascend in all; those have fewer positions
abbrev pub invariant-loop-child : goal.invariant-loop-child
invariant-loop-child g l =
    (goal.iterator-loop-child g).can_next l.child-iterator
    × (goal.iterator-loop-child g).is_finite l.child-iterator
    × (AscendIn (children_left l.child-iterator) → KeysAscend (bare_expr l.expr))
    × (counted (children_left l.child-iterator) < length (preorder l.expr))
