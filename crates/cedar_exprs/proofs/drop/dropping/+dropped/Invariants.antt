use Rattle.std.proofs.Common.{◌+◌, ◌*◌, ◌≤◌, length, vec_len}
use Rattle.cedar_exprs.specs.Steps.{nodes, below_nodes, item_nodes, field_nodes, row_nodes, all_nodes}
use Rattle.cedar_exprs.proofs.drop.dropping.+dropped.Given as goal

abbrev pub decreases-drop_below : goal.decreases-drop_below
decreases-drop_below g l = 5 * below_nodes l.below

abbrev pub decreases-drop_near : goal.decreases-drop_near
decreases-drop_near g l = 5 * below_nodes l.below + 1

abbrev pub decreases-drop_node : goal.decreases-drop_node
decreases-drop_node g l = 5 * nodes l.node + 2

abbrev pub decreases-drop_child : goal.decreases-drop_child
decreases-drop_child g l = 5 * nodes l.child.value + 3

abbrev pub decreases-drop_row : goal.decreases-drop_row
decreases-drop_row g l = 5 * row_nodes l.row + 4

abbrev pub decreases-drop_items : goal.decreases-drop_items
decreases-drop_items g l = 5 * item_nodes l.items.value.items + 3

abbrev pub decreases-drop_fields : goal.decreases-drop_fields
decreases-drop_fields g l = 5 * field_nodes l.fields.value.entries + 3

-- no more nodes are left than there were
abbrev pub invariant-drop_below-down : goal.invariant-drop_below-down
invariant-drop_below-down g l = all_nodes l.left ≤ below_nodes l.fn.below

-- each step leaves fewer nodes, or as many and a smaller kind
abbrev pub decreases-drop_below-down : goal.decreases-drop_below-down
decreases-drop_below-down g l = all_nodes l.left * (below_nodes l.fn.below + 1) + below_nodes l.left.below

abbrev pub invariant-drop_items-each : goal.invariant-drop_items-each
invariant-drop_items-each g l = item_nodes l.row.items ≤ item_nodes l.initial.row.items

abbrev pub decreases-drop_items-each : goal.decreases-drop_items-each
decreases-drop_items-each g l = vec_len l.row

abbrev pub invariant-drop_fields-each : goal.invariant-drop_fields-each
invariant-drop_fields-each g l = field_nodes l.row.entries ≤ field_nodes l.initial.row.entries

abbrev pub decreases-drop_fields-each : goal.decreases-drop_fields-each
decreases-drop_fields-each g l = length l.row.entries
