use Rattle.std.proofs.Common.{◌∙◌, ap, map}
use Rattle.std.specs.List.{list_any}
use Rattle.cedar_builders.specs.Queries.{is_unknown}
use Rattle.cedar_exprs.specs.BareExpr.{bare_expr}
use Rattle.cedar_exprs.proofs.BareWalks.{positions_bare}
use Rattle.cedar_exprs.proofs.expr.Expr.contains_unknown.Goals as goal

pub left-init : goal.left-init
left-init g c = ap (list_any is_unknown) (ap (map bare_expr) c.in_ok-left.ensures ∙ positions_bare c.args.self.now)
