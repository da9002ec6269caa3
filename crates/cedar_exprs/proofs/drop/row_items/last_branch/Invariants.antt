use Rattle.std.proofs.Common.{◌≡◌, ◌≤◌}
use Rattle.std.specs.List.{filter_map}
use Rattle.cedar_exprs.specs.Steps.{branch_of, item_nodes}
use Rattle.cedar_exprs.proofs.drop.row_items.last_branch.Given as goal

-- no more nodes are left than there were, and each branch
abbrev pub invariant-leaves : goal.invariant-leaves
invariant-leaves g l =
    (item_nodes l.items.items ≤ item_nodes l.initial.items.items)
    × (filter_map branch_of l.items.items ≡ filter_map branch_of l.initial.items.items)

abbrev pub decreases-leaves : goal.decreases-leaves
decreases-leaves g l = goal.left-leaves g l
