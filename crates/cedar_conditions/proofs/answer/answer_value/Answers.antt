use Rattle.std.proofs.Common.{ap, sym, ◌∙◌}
use Rattle.cedar_builders.specs.Environment.{empty, fold}
use Rattle.semantics_printing.specs.PolicyTexts.{policy_text_ops}
use Rattle.cedar_conditions.proofs.answer.answer_value.Goals as goal

pub returns : goal.returns
returns g c = (
  c.in_ok-policy_text.field-0.precedence,
  ap (fold policy_text_ops empty) (sym c.in_ok-expr.ensures.tree) ∙ c.in_ok-policy_text.ensures.text,
)
