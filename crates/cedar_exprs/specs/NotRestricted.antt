-- The first node of a kind that no restricted expression has (`RestrictedExpr` of Cedar's `restricted_expr.rs`).
use Rattle.std.specs.Prelude.{◌≡◌, List, Option, Some, option_map, IsSome}
use Rattle.std.specs.Option.{option_and_then}
use Rattle.cedar_builders.specs.Restricted.{is_restricted_node}
use Rattle.cedar_exprs.specs.BareExpr.{expr_place}
use Rattle.cedar_exprs.specs.FirstNodes.{first_failing, first_failing_of}
use Rattle.cedar_exprs.specs.declared.expr.Expr.{Expr}
use Rattle.cedar_exprs.specs.declared.restricted_expr.RestrictedExprError.{RestrictedExprError}
use Rattle.cedar_exprs.specs.declared.restricted_expr.RestrictedExprError.TheVariants.{NotRestricted, Memory}

-- the first such node in preorder
abbrev pub first_not_restricted : {T : Type 0} → Expr T → Option (Expr T)
first_not_restricted = first_failing is_restricted_node

-- the same in a list of expressions
abbrev pub first_not_restricted_of : {T : Type 0} → List (Expr T) → Option (Expr T)
first_not_restricted_of = first_failing_of is_restricted_node

-- the error has the place of the node that was found, or that node has a place, and there was no memory to copy it
abbrev pub IsRefusalOf : {T : Type 0} → Option (Expr T) → RestrictedExprError → Type 0
IsRefusalOf found (NotRestricted loc) = option_map expr_place found ≡ Some loc
IsRefusalOf found Memory = IsSome (option_and_then expr_place found)
