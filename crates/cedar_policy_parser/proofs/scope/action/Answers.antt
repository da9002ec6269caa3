use Rattle.std.proofs.Common.{◌≡◌, ◌∙◌, false, Some, sym, ap, rules}
use Rattle.std.specs.Global.{Global}
use Rattle.std.specs.Option.{option_map}
use Rattle.std.specs.declared.rc.Rc.{Rc}
use Rattle.std.proofs.lemmas.Bool.{false≢true}
use Rattle.cedar_terms.specs.Entities.{BareEntityUID, bare_entity_uid}
use Rattle.cedar_terms.specs.declared.entity.EntityUID.{EntityUID}
use Rattle.cedar_exprs.specs.BareExpr.{bare_expr}
use Rattle.semantics_policies.specs.Conditions.{entity_tree}
use Rattle.semantics_policies.specs.Grammar.{is_action}
use Rattle.cedar_policy_parser.specs.Scopes.{entity_of}
use Rattle.cedar_policy_parser.proofs.EntityTrees.{none_found, same_entity, some_entity}
use Rattle.cedar_policy_parser.proofs.Firsts.{no_memory}
use Rattle.cedar_policy_parser.proofs.scope.action.Goals as goal

pub returns-in_err-expr-clause-complete : goal.returns-in_err-expr-clause-complete
returns-in_err-expr-clause-complete c u rest h =
    let e = c.in_err-expr.field-0.0 in
    no_memory (λ (v : Rc EntityUID Global). bare_entity_uid v.value) u rest c.expression.new.tokens c.from_residual.result e (search rules)
    (c.in_err-expr.ensures.complete (entity_tree u) rest h.0)

pub returns-in_default-clause-complete : goal.returns-in_default-clause-complete
returns-in_default-clause-complete c u rest h =
    let uid : Rc EntityUID Global → BareEntityUID = λ v. bare_entity_uid v.value in
    let e = bare_expr c.in_ok-expr.expr in
    let g = c.in_ok-expr.ensures.complete (entity_tree u) rest h.0 in
    let none = none_found uid c.in_ok-uid.field-0 e c.in_default.not-Some c.in_ok-uid.ensures in
    absurd (some_entity u e g.0 none)

pub returns-then-is_action-clause-complete : goal.returns-then-is_action-clause-complete
returns-then-is_action-clause-complete c u rest h =
    let uid : Rc EntityUID Global → BareEntityUID = λ v. bare_entity_uid v.value in
    let e = bare_expr c.in_ok-expr.expr in
    let g = c.in_ok-expr.ensures.complete (entity_tree u) rest h.0 in
    let found : Some (uid c.in-Some.uid) ≡ entity_of e = ap (option_map uid) (sym c.in-Some.is) ∙ c.in_ok-uid.ensures in
    (same_entity u (uid c.in-Some.uid) e g.0 found, g.1)

pub returns-clause-complete : goal.returns-clause-complete
returns-clause-complete c u rest h =
    let uid : Rc EntityUID Global → BareEntityUID = λ v. bare_entity_uid v.value in
    let e = bare_expr c.in_ok-expr.expr in
    let g = c.in_ok-expr.ensures.complete (entity_tree u) rest h.0 in
    let found : Some (uid c.in-Some.uid) ≡ entity_of e = ap (option_map uid) (sym c.in-Some.is) ∙ c.in_ok-uid.ensures in
    let same : uid c.in-Some.uid ≡ u = same_entity u (uid c.in-Some.uid) e g.0 found in
    let other : is_action (bare_entity_uid c.in-Some.uid.value) ≡ false = search rules in
    absurd (false≢true (sym other ∙ (ap is_action same ∙ h.1)))
