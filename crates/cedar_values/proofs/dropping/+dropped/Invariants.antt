use Rattle.std.proofs.Common.{◌+◌, ◌*◌, ◌≤◌, length, vec_len}
use Rattle.cedar_values.specs.Counts.{kind_nodes}
use Rattle.cedar_values.specs.Drops.{row_nodes, entry_nodes, all_nodes}
use Rattle.cedar_values.proofs.dropping.+dropped.Given as goal

abbrev pub decreases-drop_near : goal.decreases-drop_near
decreases-drop_near g l = 4 * kind_nodes l.kind + 3

abbrev pub decreases-drop_branch : goal.decreases-drop_branch
decreases-drop_branch g l = 4 * kind_nodes l.kind + 2

abbrev pub decreases-drop_row : goal.decreases-drop_row
decreases-drop_row g l = 4 * kind_nodes l.row + 1

abbrev pub decreases-drop_members : goal.decreases-drop_members
decreases-drop_members g l = 4 * row_nodes l.row.value.items + 4

abbrev pub decreases-drop_pairs : goal.decreases-drop_pairs
decreases-drop_pairs g l = 4 * entry_nodes l.row.value.entries + 4

-- no more values are left than there were
abbrev pub invariant-drop_branch-down : goal.invariant-drop_branch-down
invariant-drop_branch-down g l = all_nodes l.left ≤ kind_nodes l.fn.kind

-- each step leaves fewer values, or as many and a smaller kind
abbrev pub decreases-drop_branch-down : goal.decreases-drop_branch-down
decreases-drop_branch-down g l = all_nodes l.left * (kind_nodes l.fn.kind + 1) + kind_nodes l.left.kind

abbrev pub invariant-drop_members-each : goal.invariant-drop_members-each
invariant-drop_members-each g l = row_nodes l.row.items ≤ row_nodes l.initial.row.items

abbrev pub decreases-drop_members-each : goal.decreases-drop_members-each
decreases-drop_members-each g l = vec_len l.row

abbrev pub invariant-drop_pairs-each : goal.invariant-drop_pairs-each
invariant-drop_pairs-each g l = entry_nodes l.row.entries ≤ entry_nodes l.initial.row.entries

abbrev pub decreases-drop_pairs-each : goal.decreases-drop_pairs-each
decreases-drop_pairs-each g l = length l.row.entries
