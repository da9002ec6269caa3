use Rattle.std.proofs.Common.{◌∙◌, sym, ap}
use Rattle.std.specs.List.{list_all}
use Rattle.cedar_builders.specs.Queries.{is_ref, is_ref_set}
use Rattle.cedar_exprs.specs.BareExpr.{bare_expr}
use Rattle.cedar_exprs.proofs.ChildrenOf.{bare_at_set, all_members}
use Rattle.cedar_exprs.proofs.expr.Expr.is_ref_set.Goals as goal

pub returns-in-Set : goal.returns-in-Set
returns-in-Set g c =
    c.are_refs.ensures
    ∙ ap (list_all (λ m. is_ref (bare_expr m))) c.deref-in-Set.ensures.value
    ∙ all_members is_ref c.deref.result.now.items
    ∙ ap is_ref_set (sym (bare_at_set c.args.self.now c.in-Set.members c.deref.result.now (sym c.expr_kind.ensures ∙ c.in-Set.is) c.deref.ensures))
