use Rattle.std.proofs.Common.{◌≡◌, IfOk, Ok, ap, map, option_map, subst, sym, ◌∙◌}
use Rattle.std.specs.Rc.{rc_str_bytes}
use Rattle.cedar_exprs.specs.BareExpr.{further}
use Rattle.semantics_eval.specs.Outcomes.{truth}
use Rattle.semantics_request.specs.Entities.{attribute, has_attribute}
use Rattle.semantics_request.specs.Evaluator.{path_by}
use Rattle.semantics_request.specs.Residuals.{plain_or_open}
use Rattle.cedar_values.specs.BareValues.{bare_value}
use Rattle.cedar_simplifier.specs.Simplified.{meaning_of, value_in}
use Rattle.cedar_request_simplifier.proofs.Operands.{known, residual}
use Rattle.cedar_request_simplifier.proofs.PathSteps.{open_path}
use Rattle.cedar_request_simplifier.proofs.paths.path.Goals as goal

pub returns-in-Some : goal.returns-in-Some
returns-in-Some g c =
    let s = g.S.EntityStore.bare_entities c.args.entities.now in
    subst (λ m. IfOk c.path_in_value.result (λ found. option_map (λ b. truth b) found
    ≡ value_in (path_by (has_attribute s)
    (λ j t. plain_or_open g.X.Ord.cmp (attribute s j t)) m
    (rc_str_bytes c.args.attrs.now.head) (further c.args.attrs.now))))
    (sym (known (meaning_of c.args.expr.now) (bare_value c.in-Some.value.now)
    c.in-Some.ensures.value))
    (subst (λ ks. IfOk c.path_in_value.result (λ found. option_map (λ b. truth b) found
    ≡ value_in (path_by (has_attribute s)
    (λ j t. plain_or_open g.X.Ord.cmp (attribute s j t)) (Ok (bare_value c.in-Some.value.now))
    (rc_str_bytes c.args.attrs.now.head) (map rc_str_bytes ks))))
    c.deref.ensures.value c.path_in_value.ensures)

pub returns-in-None : goal.returns-in-None
returns-in-None g c =
    let s = g.S.EntityStore.bare_entities c.args.entities.now in
    sym (ap (λ m. value_in (path_by (has_attribute s)
    (λ k t. plain_or_open g.X.Ord.cmp (attribute s k t)) m
    (rc_str_bytes c.args.attrs.now.head) (further c.args.attrs.now)))
    (residual (meaning_of c.args.expr.now) c.in-None.ensures.value)
    ∙ open_path g.X.Ord.cmp s (rc_str_bytes c.args.attrs.now.head) (further c.args.attrs.now))
