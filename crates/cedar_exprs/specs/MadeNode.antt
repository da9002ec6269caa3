-- The node that the struct `ExprBuilder` of `expr.rs` makes.
use Rattle.std.specs.Prelude.{◌≡◌, Bool, List, [], ◌∷◌, Option, Some, None}
use Rattle.cedar_names.specs.Place.{Place}
use Rattle.cedar_builders.specs.BareExpr.{BareExpr}
use Rattle.cedar_builders.specs.Trees.{bool_of, tree_ops}
use Rattle.cedar_terms.specs.declared.ops.UnaryOp.TheVariants.{Not}
use Rattle.cedar_exprs.specs.BareExpr.{bare_expr, data_of, expr_place}
use Rattle.cedar_exprs.specs.Walks.{children}
use Rattle.cedar_exprs.specs.declared.expr.Expr.{Expr}
use Rattle.cedar_exprs.specs.declared.builder.ExprBuilder.{ExprBuilder}

-- the place that a builder gives to what it makes
abbrev pub builder_place : {T : Type 0} → ExprBuilder T → Option Place
builder_place b = b.source_loc

-- the data that a builder gives to what it makes
abbrev pub builder_data : {T : Type 0} → ExprBuilder T → T
builder_data b = b.«data»

-- an expression with this tree and these children, and the builder's place and data
pub record IsMadeBy {T : Type 0} (b : ExprBuilder T) (t : BareExpr) (es : List (Expr T)) (e : Expr T) : Type 0 where
  pub tree : bare_expr e ≡ t
  pub place : expr_place e ≡ builder_place b
  pub «data» : data_of e ≡ builder_data b
  pub over : children e ≡ es

-- an expression with this tree and these children, and no place
pub record IsPlain (t : BareExpr) (es : List (Expr Unit)) (e : Expr Unit) : Type 0 where
  pub tree : bare_expr e ≡ t
  pub place : expr_place e ≡ None
  pub over : children e ≡ es

-- the negation of a plain expression, which is plain too
pub record IsPlainNegation (t : BareExpr) (es : List (Expr Unit)) (e : Expr Unit) : Type 0 where
  pub inner : Expr Unit
  pub negated : IsPlain t es inner
  pub outer : IsPlain (tree_ops.unary_of Not t) (inner ∷ []) e

abbrev pub unless_folded : {A : Type 0} → Option Bool → Option Bool → List A → List A
unless_folded (Some a) (Some b) es = []
unless_folded (Some a) None es = es
unless_folded None b es = es

-- the children of what `and` and `or` make: none where two Boolean literals become one
abbrev pub of_connective : {T : Type 0} → Expr T → Expr T → List (Expr T)
of_connective a b = unless_folded (bool_of (bare_expr a)) (bool_of (bare_expr b)) (a ∷ b ∷ [])
