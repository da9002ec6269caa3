use Rattle.std.proofs.Common.{◌+◌, ◌-◌, ◌^◌, ◌≤◌, length, map}
use Rattle.cedar_exprs.proofs.Counts.{IsRest}
use Rattle.cedar_exprs.proofs.walks.entries.Count.add_values.Given as goal

-- the values that are left make the whole
abbrev pub invariant-loop-value : goal.invariant-loop-value
invariant-loop-value g l =
    (goal.iterator-loop-value g).can_next l.value-iterator
    × (goal.iterator-loop-value g).is_finite l.value-iterator
    × (l.under + length l.value-iterator ≤ 2 ^ 64 - 1)
    × IsRest l.initial.self l.below (map (λ e. e.1) l.pairs.entries) l.self l.under l.value-iterator
