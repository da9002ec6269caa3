use Rattle.std.proofs.Common.{◌≡◌, ◌+◌, ◌*◌}
use Rattle.std.specs.Option.{option_copied}
use Rattle.semantics_values.specs.ValueExpr.{value_expr}
use Rattle.cedar_values.specs.BareValues.{bare_value_kind}
use Rattle.cedar_values.specs.Rows.{step_left, IsStep}
use Rattle.cedar_values.proofs.Rebuilt.{rebuilt, step_placed, turns, AreRows}
use Rattle.cedar_values.proofs.to_expr.expr_at.Given as goal

-- what comes next and what waits make the whole
abbrev pub invariant-walk : goal.invariant-walk
invariant-walk g l =
    (rebuilt g.X.ExtensionValue.canonical l.waiting.items (step_placed g.X.ExtensionValue.canonical l.step)
    ≡ (value_expr g.X.ExtensionValue.canonical (bare_value_kind l.kind), option_copied l.loc))
    × AreRows l.waiting.items
    × IsStep l.step

abbrev pub decreases-walk : goal.decreases-walk
decreases-walk g l = turns l.waiting.items + 2 * step_left l.step
