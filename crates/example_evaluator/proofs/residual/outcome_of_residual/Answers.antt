use Rattle.cedar_ast.specs.Evaluations.{both, meaning_of, plain_env}
use Rattle.cedar_ast.specs.Exprs.{bare_expr}
use Rattle.cedar_ast.specs.PlainNames.{bare_name}
use Rattle.example_evaluator.proofs.Later.{gives_later}
use Rattle.example_evaluator.proofs.residual.outcome_of_residual.Goals as goal

pub returns : goal.returns
returns c =
    let now = plain_env c.args.now.now in
    let later = plain_env c.args.later.now in
    gives_later meaning_of (λ refused. bare_name refused.name) _ later (both now later)
    (bare_expr c.args.rule.now) _ _ _ c.in_ok-residual.ensures
    (c.in_ok-simplify.ensures.means_the_same c.args.later.now) c.evaluate.ensures.outcome
