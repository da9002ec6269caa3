use Rattle.std.proofs.Common.{◌≡◌, ◌||◌, ◌+◌}
use Rattle.semantics_values.specs.ValueExpr.{has_extension}
use Rattle.cedar_values.specs.BareValues.{bare_value}
use Rattle.cedar_values.specs.Counts.{kind_nodes}
use Rattle.cedar_values.proofs.HeldExtensions.{any_holds, kind_holds}
use Rattle.cedar_values.proofs.WaitingValues.{nodes_in}
use Rattle.cedar_values.proofs.value.Value.holds_extension.Given as goal

-- one is inside if one is inside of this value or of what waits
abbrev pub invariant-walk : goal.invariant-walk
invariant-walk g l = (any_holds l.waiting.items || kind_holds l.kind) ≡ has_extension (bare_value l.self)

abbrev pub decreases-walk : goal.decreases-walk
decreases-walk g l = nodes_in l.waiting.items + kind_nodes l.kind
