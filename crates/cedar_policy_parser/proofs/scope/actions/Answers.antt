use Rattle.std.proofs.Common.{◌≡◌, ◌∙◌, true, false, map, Some, sym, ap, rules}
use Rattle.std.specs.Global.{Global}
use Rattle.std.specs.List.{list_all}
use Rattle.std.specs.Option.{option_map}
use Rattle.std.specs.declared.rc.Rc.{Rc}
use Rattle.std.proofs.lemmas.Bool.{false≢true}
use Rattle.cedar_terms.specs.Entities.{BareEntityUID, bare_entity_uid}
use Rattle.cedar_terms.specs.declared.entity.EntityUID.{EntityUID}
use Rattle.cedar_builders.specs.BareExpr.{trees_of}
use Rattle.cedar_exprs.specs.BareExpr.{bare_expr}
use Rattle.cedar_parser.specs.Meant.{here}
use Rattle.semantics_policies.specs.Conditions.{entity_tree}
use Rattle.semantics_policies.specs.Grammar.{is_action}
use Rattle.cedar_policies.specs.Policies.{bare_action}
use Rattle.cedar_policy_parser.specs.Scopes.{entity_of}
use Rattle.cedar_policy_parser.proofs.Actions.{actions_refused, actions_tree, members_are, one_is, set_found, set_is}
use Rattle.cedar_policy_parser.proofs.Constraints.{more_actions_parsed, one_action_parsed}
use Rattle.cedar_policy_parser.proofs.EntityTrees.{entity_found, none_found, some_found}
use Rattle.cedar_policy_parser.proofs.Firsts.{no_memory}
use Rattle.cedar_policy_parser.proofs.scope.actions.Goals as goal

pub returns-in-Some-clause-parses : goal.returns-in-Some-clause-parses
returns-in-Some-clause-parses c =
    let u = c.in-Some.uid in
    let e = bare_expr c.in_ok-expr.expr in
    let found : option_map (λ (v : Rc EntityUID Global). bare_entity_uid v.value) (Some u) ≡ entity_of e = search rules in
    let one : is_action (bare_entity_uid u.value) ≡ true = search rules in
    one_action_parsed (bare_entity_uid u.value) e c.args.tokens.now c.expression.new.tokens (entity_found e u found) one c.in_ok-expr.ensures.parses

pub returns-clause-parses : goal.returns-clause-parses
returns-clause-parses c =
    let xs = c.in-Some-2.uids.items in
    let ms = map bare_expr c.in-Some-members_in.members.now in
    let all : ms ≡ map (λ (u : Rc EntityUID Global). entity_tree (bare_entity_uid u.value)) xs = search rules in
    let actions : list_all (λ (u : Rc EntityUID Global). is_action (bare_entity_uid u.value)) xs ≡ true = search rules in
    more_actions_parsed xs ms (bare_expr c.in_ok-expr.expr) c.args.tokens.now c.expression.new.tokens c.in-Some-members_in.ensures.members all actions
    c.in_ok-expr.ensures.parses

pub returns-in_err-expr-clause-complete : goal.returns-in_err-expr-clause-complete
returns-in_err-expr-clause-complete c x rest h =
    let e = c.in_err-expr.field-0.0 in
    no_memory bare_action x rest c.expression.new.tokens c.from_residual.result e (search rules)
    (actions_refused x (here c.args.tokens.now) rest e c.in_err-expr.ensures.complete h)

pub returns-then-not-is_action-clause-complete : goal.returns-then-not-is_action-clause-complete
returns-then-not-is_action-clause-complete c x rest h =
    let uid : Rc EntityUID Global → BareEntityUID = λ v. bare_entity_uid v.value in
    let u = c.in-Some.uid in
    let e = bare_expr c.in_ok-expr.expr in
    let t = actions_tree x (here c.args.tokens.now) (here c.expression.new.tokens) rest e c.in_ok-expr.ensures.complete h in
    let found : Some (uid u) ≡ entity_of e = ap (option_map uid) (sym c.in-Some.is) ∙ c.in_ok-uid.ensures in
    let other : is_action (bare_entity_uid u.value) ≡ false = search rules in
    absurd (false≢true (sym other ∙ (one_is x (uid u) e found t.0).1))

pub returns-in-Some-clause-complete : goal.returns-in-Some-clause-complete
returns-in-Some-clause-complete c x rest h =
    let uid : Rc EntityUID Global → BareEntityUID = λ v. bare_entity_uid v.value in
    let u = c.in-Some.uid in
    let e = bare_expr c.in_ok-expr.expr in
    let t = actions_tree x (here c.args.tokens.now) (here c.expression.new.tokens) rest e c.in_ok-expr.ensures.complete h in
    let found : Some (uid u) ≡ entity_of e = ap (option_map uid) (sym c.in-Some.is) ∙ c.in_ok-uid.ensures in
    ((one_is x (uid u) e found t.0).0, t.1)

pub returns-in_default-members_in-clause-complete : goal.returns-in_default-members_in-clause-complete
returns-in_default-members_in-clause-complete c x rest h =
    let uid : Rc EntityUID Global → BareEntityUID = λ v. bare_entity_uid v.value in
    let e = bare_expr c.in_ok-expr.expr in
    let t = actions_tree x (here c.args.tokens.now) (here c.expression.new.tokens) rest e c.in_ok-expr.ensures.complete h in
    let none = none_found uid c.in_ok-uid.field-0 e c.in_default.not-Some c.in_ok-uid.ensures in
    let s = set_is x e none t.0 in
    absurd (false≢true (c.in_default-members_in.ensures.present (trees_of (map entity_tree s.uids)) s.tree_is))

pub returns-in_default-2-clause-complete : goal.returns-in_default-2-clause-complete
returns-in_default-2-clause-complete c x rest h =
    let uid : Rc EntityUID Global → BareEntityUID = λ v. bare_entity_uid v.value in
    let e = bare_expr c.in_ok-expr.expr in
    let ms = map bare_expr c.in-Some-members_in.members.now in
    let t = actions_tree x (here c.args.tokens.now) (here c.expression.new.tokens) rest e c.in_ok-expr.ensures.complete h in
    let none = none_found uid c.in_ok-uid.field-0 e c.in_default.not-Some c.in_ok-uid.ensures in
    let s = set_is x e none t.0 in
    let same : ms ≡ map entity_tree s.uids = members_are e ms (map entity_tree s.uids) c.in-Some-members_in.ensures.members s.tree_is in
    absurd (some_found c.in_ok-uids.field-0 c.in_default-2.not-Some (c.in_ok-uids.ensures.present s.uids same))

pub returns-then-not-are_actions-clause-complete : goal.returns-then-not-are_actions-clause-complete
returns-then-not-are_actions-clause-complete c x rest h =
    let uid : Rc EntityUID Global → BareEntityUID = λ v. bare_entity_uid v.value in
    let e = bare_expr c.in_ok-expr.expr in
    let xs = c.in-Some-2.uids.items in
    let ms = map bare_expr c.in-Some-members_in.members.now in
    let t = actions_tree x (here c.args.tokens.now) (here c.expression.new.tokens) rest e c.in_ok-expr.ensures.complete h in
    let none = none_found uid c.in_ok-uid.field-0 e c.in_default.not-Some c.in_ok-uid.ensures in
    let all : ms ≡ map (λ (u : Rc EntityUID Global). entity_tree (bare_entity_uid u.value)) xs = search rules in
    let other : list_all (λ (u : Rc EntityUID Global). is_action (bare_entity_uid u.value)) xs ≡ false = search rules in
    let f = set_found xs x e ms (set_is x e none t.0) c.in-Some-members_in.ensures.members all in
    absurd (false≢true (sym other ∙ f.1))

pub returns-clause-complete : goal.returns-clause-complete
returns-clause-complete c x rest h =
    let uid : Rc EntityUID Global → BareEntityUID = λ v. bare_entity_uid v.value in
    let e = bare_expr c.in_ok-expr.expr in
    let xs = c.in-Some-2.uids.items in
    let ms = map bare_expr c.in-Some-members_in.members.now in
    let t = actions_tree x (here c.args.tokens.now) (here c.expression.new.tokens) rest e c.in_ok-expr.ensures.complete h in
    let none = none_found uid c.in_ok-uid.field-0 e c.in_default.not-Some c.in_ok-uid.ensures in
    let all : ms ≡ map (λ (u : Rc EntityUID Global). entity_tree (bare_entity_uid u.value)) xs = search rules in
    let f = set_found xs x e ms (set_is x e none t.0) c.in-Some-members_in.ensures.members all in
    (f.0, t.1)
