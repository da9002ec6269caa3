use Rattle.std.proofs.Common.{◌∙◌, sym, ap}
use Rattle.std.specs.Ordering.{is_eq}
use Rattle.cedar_builders.specs.ShapeOrder.{shapes_decide}
use Rattle.cedar_exprs.specs.BareExpr.{bare_expr}
use Rattle.cedar_exprs.proofs.expr.Expr.eq_shape.Goals as goal

pub returns : goal.returns
returns g c =
    let same = c.is_eq.ensures ∙ ap is_eq c.cmp_shape.ensures in
    let decided = shapes_decide (bare_expr c.args.self.now) (bare_expr c.args.other.now) in
    (λ e. decided.0 (sym same ∙ e), λ e. same ∙ decided.1 e)
