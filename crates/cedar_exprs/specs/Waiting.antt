-- Expressions that wait on a stack, the last of which comes next.
use Rattle.std.specs.Prelude.{List, map, reverse}
use Rattle.cedar_builders.specs.BareExpr.{BareExpr}
use Rattle.cedar_exprs.specs.BareExpr.{bare_expr}
use Rattle.cedar_exprs.specs.Walks.{referents}
use Rattle.cedar_exprs.specs.declared.expr.Expr.{Expr}
use denote.Ref.{Bor}

-- they, the next first
abbrev pub next_first : {T : Type 0} → List (Bor (Expr T)) → List (Expr T)
next_first es = reverse (referents es)

-- their bare trees, the next first
abbrev pub bare_waiting : {T : Type 0} → List (Bor (Expr T)) → List BareExpr
bare_waiting es = reverse (map bare_expr (referents es))
