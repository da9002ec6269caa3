use Rattle.std.proofs.Common.{◌≡◌, length}
use Rattle.cedar_exprs.specs.Iterators.{positions_left, slots_left, reserved_by_slots}
use Rattle.cedar_exprs.proofs.walks.expr_iterator.SlotsIterator.next.Given as goal

-- no slot was passed over, and what is reserved stays
abbrev pub invariant-loop-expr : goal.invariant-loop-expr
invariant-loop-expr g l =
    (slots_left l.self ≡ slots_left l.initial.self)
    × (reserved_by_slots l.self ≡ reserved_by_slots l.initial.self)

abbrev pub decreases-loop-expr : goal.decreases-loop-expr
decreases-loop-expr g l = length (positions_left l.self.walk)
