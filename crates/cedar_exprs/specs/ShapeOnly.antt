-- What an expression is that compares by its shape alone.
use Rattle.cedar_builders.specs.BareExpr.{BareExpr}
use Rattle.cedar_exprs.specs.BareExpr.{bare_expr}
use Rattle.cedar_exprs.specs.declared.shapes.expr_shape_only.ExprShapeOnly.{ExprShapeOnly}
use Rattle.cedar_exprs.specs.declared.shapes.expr_shape_only.Held.{Held}
use Rattle.cedar_exprs.specs.declared.shapes.expr_shape_only.Held.TheVariants.{Borrowed, Owned}

abbrev pub held_tree : {T : Type 0} → Held T → BareExpr
held_tree (Borrowed e) = bare_expr e.now
held_tree (Owned e) = bare_expr e

-- the bare tree of the expression
abbrev pub shape_of : {T : Type 0} → ExprShapeOnly T → BareExpr
shape_of e = held_tree e.0
