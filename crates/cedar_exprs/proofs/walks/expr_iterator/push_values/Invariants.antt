use Rattle.std.proofs.Common.{◌≡◌, ◌++◌, map, vec_capacity}
use Rattle.cedar_exprs.specs.Walks.{referents}
use Rattle.cedar_exprs.proofs.walks.expr_iterator.push_values.Given as goal

-- what is on the stack, and what is left, make the whole
abbrev pub invariant-loop-value : goal.invariant-loop-value
invariant-loop-value g l =
    (goal.iterator-loop-value g).can_next l.value-iterator
    × (goal.iterator-loop-value g).is_finite l.value-iterator
    × (vec_capacity l.stack ≡ vec_capacity l.initial.stack)
    × (referents l.stack.items ++ l.value-iterator ≡ referents l.initial.stack.items ++ map (λ e. e.1) l.pairs.entries)
