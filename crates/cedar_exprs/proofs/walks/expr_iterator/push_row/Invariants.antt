use Rattle.std.proofs.Common.{◌≡◌, ◌++◌, take, vec_capacity}
use Rattle.cedar_exprs.specs.Walks.{referents}
use Rattle.cedar_exprs.proofs.walks.expr_iterator.push_row.Given as goal

-- those so far are on the stack
abbrev pub invariant-loop-member : goal.invariant-loop-member
invariant-loop-member g l =
    (vec_capacity l.stack ≡ vec_capacity l.initial.stack)
    × (referents l.stack.items ≡ referents l.initial.stack.items ++ take l.member-index l.row)
