use Rattle.cedar_ast.specs.Exprs.{bare_expr}
use Rattle.example_evaluator.proofs.Decided.{answer_stays}
use Rattle.example_evaluator.proofs.decision.decide.Goals as goal

pub returns-else-is_open-clause-in_both : goal.returns-else-is_open-clause-in_both
returns-else-is_open-clause-in_both c =
    let rule = bare_expr c.args.rule.now in
    answer_stays _ _ (c.decided_stays.ensures c.args.first.now c.args.second.now rule) _ _
    c.evaluate-early.ensures.outcome
    (λ opens. let is = c.is_open.ensures.1 opens in cc)
