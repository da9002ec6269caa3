use Rattle.cedar_ast.specs.Answers.{never}
use Rattle.cedar_ast.specs.Evaluations.{bare_value, plain_env}
use Rattle.cedar_ast.specs.Exprs.{bare_expr}
use Rattle.example_evaluator.proofs.InBoth.{gives_in}
use Rattle.example_evaluator.proofs.decision.decide_in_both.Goals as goal

pub returns : goal.returns
returns c =
    let first = c.args.first.now in
    let second = c.args.second.now in
    let rule = bare_expr c.args.rule.now in
    gives_in _ _ _ (plain_env first) (plain_env second) _ _ rule _ _ c.in_ok-substituted.ensures
    (c.substituted_twice.ensures (plain_env first) (plain_env second) rule)
    (c.then_is_both_of_maps.ensures first second
    (λ name v is. c.plain_where_none.ensures (λ h. never h.held) (bare_value v)))
    c.evaluate.ensures.outcome
