use Rattle.std.proofs.Common.{◌≡◌}
use Rattle.std.specs.Option.{option_map}
use Rattle.cedar_terms.specs.Types.{bare_type}
use Rattle.cedar_builders.specs.Count.{total}
use Rattle.cedar_validation.specs.Branches.{type_of_all}
use Rattle.cedar_validation.specs.TypeOfTree.{type_of_tree}
use Rattle.cedar_exprs.specs.BareExpr.{bare_expr}
use Rattle.cedar_exprs.specs.Waiting.{bare_waiting}
use Rattle.cedar_exprs.proofs.expr.Expr.try_type_of.Given as goal

-- the type that was found, and those of the branches that wait, have the type of the whole in common
abbrev pub invariant-left : goal.invariant-left
invariant-left g l =
    type_of_all (g.F.FunctionTable.return_type_at l.table) (option_map bare_type l.found) (bare_waiting l.waiting.items)
    ≡ type_of_tree (g.F.FunctionTable.return_type_at l.table) (bare_expr l.self)

abbrev pub decreases-left : goal.decreases-left
decreases-left g l = total (bare_waiting l.waiting.items)
