-- Restricted expressions, and the values that unknowns are bound to.
use Rattle.std.specs.Prelude.{Option, None, option_map}
use Rattle.std.specs.Global.{Global}
use Rattle.std.specs.Rc.{rc_str_bytes}
use Rattle.std.specs.HashMap.{get_by, HashMap}
use Rattle.std.specs.Str.{bytes_eq}
use Rattle.std.specs.declared.rc.RcStr.{RcStr}
use Rattle.cedar_terms.specs.Types.{BareType}
use Rattle.cedar_builders.specs.BareExpr.{BareExpr, Unknown}
use Rattle.cedar_builders.specs.Environment.{Env}
use Rattle.cedar_exprs.specs.BareExpr.{bare_expr}
use Rattle.cedar_exprs.specs.declared.expr.Expr.{Expr}
use Rattle.cedar_exprs.specs.declared.restricted_expr.RestrictedExpr.{RestrictedExpr}

-- the expression that is restricted
abbrev pub expr_of : RestrictedExpr → Expr Unit
expr_of r = r.expr

-- its bare tree
abbrev pub bare_restricted_expr : RestrictedExpr → BareExpr
bare_restricted_expr r = bare_expr r.expr

-- each name that the map has, with the type and the tree of its value
abbrev pub env_of : {V S : Type 0} → (V → BareType) → (V → BareExpr) → HashMap (RcStr Global) V S → Env
env_of type_of tree_of m name = option_map (λ v. (type_of v, tree_of v)) (get_by (λ k. bytes_eq name (rc_str_bytes k)) m)

-- the type and the tree that an unknown is bound to, if it is; any other node is bound to none
abbrev pub binding_of : Env → BareExpr → Option (BareType × BareExpr)
binding_of env (Unknown n t) = env n
binding_of env _ = None
