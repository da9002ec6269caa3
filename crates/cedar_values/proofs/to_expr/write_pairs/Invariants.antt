use Rattle.std.proofs.Common.{◌≡◌, ◌≤◌, ◌++◌, length}
use Rattle.std.specs.Option.{option_copied}
use Rattle.cedar_builders.specs.Keys.{IsAscending, keys_of}
use Rattle.cedar_values.specs.Conversions.{bare_pairs}
use Rattle.cedar_values.specs.Counts.{pair_nodes}
use Rattle.cedar_values.specs.Rows.{pairs_tree, ArePairsRestricted}
use Rattle.cedar_values.proofs.to_expr.write_pairs.Given as goal

-- what is written and what is left make the whole; what is written is restricted, and the keys ascend
abbrev pub invariant-each : goal.invariant-each
invariant-each g l =
    (pairs_tree g.X.ExtensionValue.canonical l.row ≡ pairs_tree g.X.ExtensionValue.canonical l.initial.row)
    × ArePairsRestricted l.row.exprs.entries
    × IsAscending (keys_of l.row.exprs.entries ++ keys_of l.row.rest)
    × (option_copied l.row.loc ≡ option_copied l.initial.row.loc)
    × (pair_nodes (bare_pairs l.row.rest) ≤ pair_nodes (bare_pairs l.initial.row.rest))

abbrev pub decreases-each : goal.decreases-each
decreases-each g l = length l.row.rest
