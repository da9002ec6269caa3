use Rattle.cedar_exprs.specs.BareExpr.{bare_expr}
use Rattle.semantics_values.specs.Reading.{IsValueOf}
use Rattle.cedar_values.specs.BareValues.{bare_value}
use Rattle.cedar_exprs.specs.FirstNodes.{InPreorder}
use Rattle.cedar_values.proofs.FirstFault.{answered}
use Rattle.cedar_values.proofs.value.Value.try_from_expr.Goals as goal

pub returns-clause-readable : goal.returns-clause-readable
returns-clause-readable g c =
    let o : InPreorder Unit = c.nodes_in_preorder.ensures in
    let e = c.args.expr in
    answered o e (λ v. IsValueOf g.X.Ord.cmp (bare_expr e) (bare_value v)) (λ v. c.reading_gives_one_value.ensures.readable (bare_expr e) (bare_value v)) c.value_of.result c.value_of.ensures.outcome
