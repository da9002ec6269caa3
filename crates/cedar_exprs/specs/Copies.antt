-- Copies of expressions.
use Rattle.std.specs.Prelude.{◌≡◌}
use Rattle.cedar_exprs.specs.BareExpr.{bare_expr, data_of, expr_place}
use Rattle.cedar_exprs.specs.Walks.{children}
use Rattle.cedar_exprs.specs.declared.expr.Expr.{Expr}

-- the second is a copy of the first, and R holds of their data: the same tree, place and children
abbrev pub IsCopy : {T : Type 0} → (T → T → Type 0) → Expr T → Expr T → Type 0
IsCopy R e copy =
    (bare_expr copy ≡ bare_expr e)
    × (expr_place copy ≡ expr_place e)
    × (children copy ≡ children e)
    × R (data_of e) (data_of copy)
