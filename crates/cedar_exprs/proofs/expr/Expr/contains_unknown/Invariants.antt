use Rattle.std.proofs.Common.{◌≡◌, length, map}
use Rattle.std.specs.List.{list_any}
use Rattle.cedar_builders.specs.Queries.{is_unknown, contains_unknown}
use Rattle.cedar_exprs.specs.BareExpr.{bare_expr}
use Rattle.cedar_exprs.specs.Positions.{still_given}
use Rattle.cedar_exprs.proofs.expr.Expr.contains_unknown.Given as goal

-- the positions that are left have the answer of all
abbrev pub invariant-left : goal.invariant-left
invariant-left g l =
    list_any is_unknown (map bare_expr (still_given l.left)) ≡ contains_unknown (bare_expr l.self)

abbrev pub decreases-left : goal.decreases-left
decreases-left g l = length (still_given l.left)
