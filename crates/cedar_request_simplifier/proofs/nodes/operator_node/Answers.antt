use Rattle.std.proofs.Common.{option_map, ap, sym, ◌∙◌}
use Rattle.semantics_request.specs.Evaluator.{apply_over, then_two}
use Rattle.semantics_request.specs.Residuals.{plain_or_open}
use Rattle.semantics_simplify.specs.Simplified.{outcome_of}
use Rattle.cedar_values.specs.BareValues.{bare_value}
use Rattle.cedar_simplifier.specs.Simplified.{meaning_of, value_in}
use Rattle.cedar_simplifier.proofs.Made.{residual}
use Rattle.cedar_request_simplifier.proofs.nodes.operator_node.Goals as goal

pub returns-in_ok-residual-in-None : goal.returns-in_ok-residual-in-None
returns-in_ok-residual-in-None g c =
    c.in_ok-residual-in-None.ensures
    ∙ residual _ _
    (sym (ap (option_map bare_value) c.in-None.is) ∙ c.in_ok-value.ensures.value
    ∙ ap (λ s. value_in (then_two
    (λ t u. plain_or_open g.X.Ord.cmp (apply_over g.X.Ord.cmp g.X.PartialEq.eq s c.args.op t u))
    (outcome_of (meaning_of c.args.left)) (outcome_of (meaning_of c.args.right))))
    c.entities.ensures)
