use Rattle.std.proofs.Common.{◌≡◌, ◌≤◌, length}
use Rattle.std.specs.Option.{option_copied}
use Rattle.std.specs.Slice.Iter.{iter_rest}
use Rattle.cedar_values.specs.Counts.{nodes_of}
use Rattle.cedar_values.specs.Rows.{members_tree, AreRestricted}
use Rattle.cedar_values.proofs.to_expr.write_members.Given as goal

-- what is written and what is left make the whole, and what is written is restricted
abbrev pub invariant-each : goal.invariant-each
invariant-each g l =
    (members_tree g.X.ExtensionValue.canonical l.row ≡ members_tree g.X.ExtensionValue.canonical l.initial.row)
    × AreRestricted l.row.exprs.items
    × (option_copied l.row.loc ≡ option_copied l.initial.row.loc)
    × (nodes_of (iter_rest l.row.rest) ≤ nodes_of (iter_rest l.initial.row.rest))

abbrev pub decreases-each : goal.decreases-each
decreases-each g l = length (iter_rest l.row.rest)
