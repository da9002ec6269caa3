use Rattle.std.proofs.Common.{◌+◌, ◌-◌, ◌^◌, ◌≤◌, length, drop}
use Rattle.cedar_exprs.proofs.Counts.{IsRest}
use Rattle.cedar_exprs.proofs.walks.entries.Count.add_row.Given as goal

-- the members that are left make the whole
abbrev pub invariant-loop-member : goal.invariant-loop-member
invariant-loop-member g l =
    (l.under + length (drop l.member-index l.row) ≤ 2 ^ 64 - 1)
    × IsRest l.initial.self l.below l.row l.self l.under (drop l.member-index l.row)
