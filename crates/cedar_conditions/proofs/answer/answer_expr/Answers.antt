use Rattle.std.proofs.Common.{Ok, ap, sym, ◌∙◌}
use Rattle.cedar_evaluator.specs.Outcomes.{bare_outcome}
use Rattle.cedar_conditions.proofs.Answering.{undecided_by_refusal}
use Rattle.cedar_conditions.proofs.answer.answer_expr.Goals as goal

pub returns-in-Ok : goal.returns-in-Ok
returns-in-Ok g c =
    c.answer_outcome.ensures
    (c.in-Ok.ensures ∙ ap (λ r. Ok (bare_outcome r)) (sym c.into_result.ensures.same))

pub returns-in-Err-Build : goal.returns-in-Err-Build
returns-in-Err-Build g c =
    c.answer_residual.ensures
    (undecided_by_refusal _ _ c.in-Err-Build.field-0 c.in-Err-Build.field-0-0 c.in-Err-Build.field-0-is
    c.in-Err-Build.ensures)
