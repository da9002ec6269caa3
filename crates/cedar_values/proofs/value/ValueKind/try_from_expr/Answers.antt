use Rattle.std.proofs.Common.{◌≡◌, Err, sym, ap, subst, ◌∙◌, rules}
use Rattle.cedar_exprs.specs.BareExpr.{bare_expr}
use Rattle.semantics_values.specs.Reading.{IsValueOf, is_readable}
use Rattle.cedar_values.specs.BareValues.{bare_value}
use Rattle.cedar_values.specs.NotReadable.{IsAnswerWhere}
use Rattle.cedar_values.specs.WellFormed.{kind_well_formed}
use Rattle.cedar_exprs.specs.FirstNodes.{InPreorder}
use Rattle.cedar_values.proofs.FirstFault.{answered}
use Rattle.cedar_values.proofs.Levels.{value_kept}
use Rattle.cedar_values.proofs.value.ValueKind.try_from_expr.Goals as goal

pub returns-in_err-value-clause-readable : goal.returns-in_err-value-clause-readable
returns-in_err-value-clause-readable g c =
    let o : InPreorder Unit = c.nodes_in_preorder.ensures in
    let e = c.args.expr in
    let same : c.from_residual.result ≡ Err c.in_err-value.field-0.0 = search rules in
    subst (IsAnswerWhere (is_readable (bare_expr e))) (sym same)
    (answered o e (λ v. IsValueOf g.X.Ord.cmp (bare_expr e) (bare_value v)) (λ v. c.reading_gives_one_value.ensures.readable (bare_expr e) (bare_value v)) (Err c.in_err-value.field-0.0) c.in_err-value.ensures.outcome)

pub returns-clause-readable : goal.returns-clause-readable
returns-clause-readable g c = c.reading_gives_one_value.ensures.readable (bare_expr c.args.expr) (bare_value c.in_ok-value.value) c.in_ok-value.ensures.outcome

pub returns-clause-well_formed : goal.returns-clause-well_formed
returns-clause-well_formed g c =
    ap (kind_well_formed g.X.Ord.cmp) c.into_kind.ensures ∙ sym (value_kept g.X.Ord.cmp c.in_ok-value.value) ∙ c.in_ok-value.ensures.well_formed
