-- The bare tree of an expression, and its place.
pub use Rattle.cedar_exprs.specs.BareExpr.{bare_expr, expr_place}
