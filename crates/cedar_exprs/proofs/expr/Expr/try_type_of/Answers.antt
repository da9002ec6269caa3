use Rattle.std.proofs.Common.{ap, sym, ◌∙◌}
use Rattle.std.specs.Option.{option_map}
use Rattle.cedar_terms.specs.Types.{bare_type}
use Rattle.cedar_validation.specs.Branches.{joined, type_of_all}
use Rattle.cedar_exprs.specs.BareExpr.{bare_expr}
use Rattle.cedar_exprs.specs.Waiting.{bare_waiting}
use Rattle.cedar_exprs.proofs.Branches.{top_first}
use Rattle.cedar_exprs.proofs.expr.Expr.try_type_of.Goals as goal

pub left-preserved : goal.left-preserved
left-preserved g c =
    let return_type_at = g.F.FunctionTable.return_type_at c.args.table.now in
    let found = option_map bare_type c.left.found in
    let rest = c.pop.new.self.items in
    let now = bare_waiting c.type_of_first-in-Some.new.waiting.items in
    ap (λ t. type_of_all return_type_at t now) c.common_type-found.ensures
    ∙ joined return_type_at found (option_map bare_type c.in_ok-other.other) (bare_expr c.in-Some.branch.now) (bare_waiting rest) now c.in_ok-other.ensures.common
    ∙ ap (type_of_all return_type_at found) (sym (top_first c.left.waiting.items rest c.in-Some.branch c.in-Some.ensures.items))
    ∙ c.left.invariant
