use Rattle.std.proofs.Common.{◌≡◌, length}
use Rattle.cedar_exprs.specs.Iterators.{positions_left, unknowns_left, reserved_by_unknowns}
use Rattle.cedar_exprs.proofs.walks.expr_iterator.UnknownsIterator.next.Given as goal

-- no unknown was passed over, and what is reserved stays
abbrev pub invariant-loop-expr : goal.invariant-loop-expr
invariant-loop-expr g l =
    (unknowns_left l.self ≡ unknowns_left l.initial.self)
    × (reserved_by_unknowns l.self ≡ reserved_by_unknowns l.initial.self)

abbrev pub decreases-loop-expr : goal.decreases-loop-expr
decreases-loop-expr g l = length (positions_left l.self.walk)
