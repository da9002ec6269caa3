use Rattle.std.proofs.Common.{◌≡◌, true, map, take}
use Rattle.std.specs.List.{list_all}
use Rattle.cedar_builders.specs.Restricted.{is_restricted}
use Rattle.cedar_exprs.specs.BareExpr.{bare_expr}
use Rattle.cedar_exprs.specs.RestrictedExprs.{bare_restricted_expr}
use Rattle.cedar_values.proofs.to_expr.expr_of_call.Given as goal

-- the arguments so far are copied, which are restricted
abbrev pub invariant-loop-arg : goal.invariant-loop-arg
invariant-loop-arg l =
    (map bare_expr l.args.items ≡ map bare_restricted_expr (take l.arg-index l.arg-items))
    × (list_all (λ e. is_restricted (bare_expr e)) l.args.items ≡ true)
