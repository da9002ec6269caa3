use Rattle.std.proofs.Common.{◌≡◌, length, map}
use Rattle.std.specs.List.{list_all}
use Rattle.cedar_builders.specs.Queries.{is_projectable_node, is_projectable}
use Rattle.cedar_exprs.specs.BareExpr.{bare_expr}
use Rattle.cedar_exprs.specs.Positions.{still_given}
use Rattle.cedar_exprs.proofs.expr.Expr.is_projectable.Given as goal

-- the positions that are left have the answer of all
abbrev pub invariant-left : goal.invariant-left
invariant-left g l =
    list_all is_projectable_node (map bare_expr (still_given l.left)) ≡ is_projectable (bare_expr l.self)

abbrev pub decreases-left : goal.decreases-left
decreases-left g l = length (still_given l.left)
