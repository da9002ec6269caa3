use Rattle.std.proofs.Common.{◌∙◌, ap, map}
use Rattle.std.specs.List.{list_all}
use Rattle.cedar_builders.specs.Queries.{is_projectable_node}
use Rattle.cedar_exprs.specs.BareExpr.{bare_expr}
use Rattle.cedar_exprs.proofs.BareWalks.{positions_bare}
use Rattle.cedar_exprs.proofs.expr.Expr.is_projectable.Goals as goal

pub left-init : goal.left-init
left-init g c = ap (list_all is_projectable_node) (ap (map bare_expr) c.in_ok-left.ensures ∙ positions_bare c.args.self.now)
