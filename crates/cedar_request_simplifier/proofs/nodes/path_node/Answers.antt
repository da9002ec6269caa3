use Rattle.std.proofs.Common.{List, [], ◌∷◌, ap, option_map, sym, ◌∙◌}
use Rattle.std.specs.Rc.{rc_str_bytes}
use Rattle.cedar_builders.specs.BareExpr.{Text, BareExpr, HasAttr}
use Rattle.cedar_exprs.specs.BareExpr.{further}
use Rattle.semantics_eval.specs.Outcomes.{truth}
use Rattle.semantics_request.specs.Entities.{attribute, has_attribute}
use Rattle.semantics_request.specs.Evaluator.{path_by}
use Rattle.semantics_request.specs.Residuals.{plain_or_open}
use Rattle.semantics_simplify.specs.Simplified.{Residual, outcome_of, tree_of}
use Rattle.cedar_simplifier.specs.Simplified.{meaning_of, value_in}
use Rattle.cedar_simplifier.proofs.Made.{known, residual}
use Rattle.cedar_request_simplifier.proofs.nodes.path_node.Goals as goal

-- whether a path of attributes is there, by the list of them
abbrev has_node : BareExpr → List Text → BareExpr
has_node e [] = e
has_node e (k ∷ ks) = HasAttr e k ks

pub returns-in-Some : goal.returns-in-Some
returns-in-Some g c =
    c.lit.ensures
    ∙ known _ _ _
    (sym (ap (option_map (λ b. truth b)) c.in-Some.is) ∙ c.in_ok-truth.ensures
    ∙ ap (λ s. value_in (path_by (has_attribute s)
    (λ j t. plain_or_open g.X.Ord.cmp (attribute s j t)) (outcome_of (meaning_of c.args.child))
    (rc_str_bytes c.args.attrs.now.head) (further c.args.attrs.now)))
    c.entities.ensures)

pub returns-in_ok-residual-in-None : goal.returns-in_ok-residual-in-None
returns-in_ok-residual-in-None g c =
    c.in_ok-residual-in-None.ensures
    ∙ ap (λ ks. Residual (has_node
    (tree_of g.X.ExtensionValue.canonical (meaning_of c.args.child)) ks))
    c.in_ok-clone-in-None.ensures
    ∙ residual _ _
    (sym (ap (option_map (λ b. truth b)) c.in-None.is) ∙ c.in_ok-truth.ensures
    ∙ ap (λ s. value_in (path_by (has_attribute s)
    (λ j t. plain_or_open g.X.Ord.cmp (attribute s j t)) (outcome_of (meaning_of c.args.child))
    (rc_str_bytes c.args.attrs.now.head) (further c.args.attrs.now)))
    c.entities.ensures)
