use Rattle.std.proofs.Common.{ap, ◌∙◌}
use Rattle.cedar_exprs.specs.BareExpr.{bare_expr}
use Rattle.semantics_simplify.specs.Simplified.{tree_of}
use Rattle.cedar_request_evaluator.specs.Knowledge.{functions_of, knowledge_of}
use Rattle.cedar_conditions.proofs.Answering.{residual_answer}
use Rattle.cedar_conditions.proofs.answer.answer_residual.Goals as goal

pub returns : goal.returns
returns g c = λ none.
    let C = g.X.ExtensionValue.canonical in
    let printed = c.in_ok-policy_text.field-0 in
    residual_answer g.X.Ord.cmp g.X.PartialEq.eq C
    (functions_of g.T.CallableFunctions.bare_functions c.args.evaluator.now)
    (knowledge_of g.S.EntityStore.bare_entities c.args.evaluator.now) (bare_expr c.args.expr.now)
    (bare_expr c.in_ok-residual.residual)
    (record { text = printed.text; unknowns = c.in_ok-unknowns_of.field-0 })
    printed.precedence none
    (c.in_ok-residual.ensures ∙ ap (tree_of C) c.in_ok-simplify.ensures.residual)
    c.in_ok-policy_text.ensures.text
