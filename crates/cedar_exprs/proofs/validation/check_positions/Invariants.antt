use Rattle.std.proofs.Common.{◌≡◌, length, map}
use Rattle.cedar_builders.specs.Walks.{first_of}
use Rattle.cedar_validation.specs.Faults.{fault_at, first_fault}
use Rattle.cedar_exprs.specs.BareExpr.{bare_expr}
use Rattle.cedar_exprs.specs.Positions.{still_given}
use Rattle.cedar_exprs.proofs.validation.check_positions.Given as goal

-- the positions that are left have the first fault of all
abbrev pub invariant-left : goal.invariant-left
invariant-left g l =
    first_of (fault_at (g.F.FunctionTable.style_at l.table)) (map bare_expr (still_given l.left)) ≡ first_fault (g.F.FunctionTable.style_at l.table) (bare_expr l.expr)

abbrev pub decreases-left : goal.decreases-left
decreases-left g l = length (still_given l.left)
