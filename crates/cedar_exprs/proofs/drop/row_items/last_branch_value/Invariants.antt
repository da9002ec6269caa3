use Rattle.std.proofs.Common.{◌≡◌, ◌≤◌, length}
use Rattle.std.specs.List.{filter_map}
use Rattle.cedar_exprs.specs.Steps.{branch_of, field_nodes}
use Rattle.cedar_exprs.proofs.drop.row_items.last_branch_value.Given as goal

-- no more nodes are left than there were, and each branch
abbrev pub invariant-leaves : goal.invariant-leaves
invariant-leaves g l =
    (field_nodes l.pairs.entries ≤ field_nodes l.initial.pairs.entries)
    × (filter_map (λ p. branch_of p.1) l.pairs.entries ≡ filter_map (λ p. branch_of p.1) l.initial.pairs.entries)

abbrev pub decreases-leaves : goal.decreases-leaves
decreases-leaves g l = length l.pairs.entries
