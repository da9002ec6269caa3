use Rattle.std.proofs.Common.{◌≡◌, ◌≤◌}
use Rattle.std.specs.List.{filter_map}
use Rattle.cedar_values.specs.Drops.{branch_of, row_nodes}
use Rattle.cedar_values.proofs.row_items.last_branch.Given as goal

-- no more values are left than there were, and each branch
abbrev pub invariant-leaves : goal.invariant-leaves
invariant-leaves g l =
    (row_nodes l.members.items ≤ row_nodes l.initial.members.items)
    × (filter_map branch_of l.members.items ≡ filter_map branch_of l.initial.members.items)

abbrev pub decreases-leaves : goal.decreases-leaves
decreases-leaves g l = goal.left-leaves g l
