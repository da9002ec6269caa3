use Rattle.std.proofs.Common.{Err, Ok, rules}
use Rattle.std.proofs.lemmas.Bool.{false≢true}
use Rattle.std.specs.Global.{Global}
use Rattle.std.specs.declared.rc.Rc.{Rc}
use Rattle.cedar_terms.specs.Entities.{bare_entity_uid}
use Rattle.cedar_terms.specs.declared.entity.EntityUID.{EntityUID}
use Rattle.cedar_lexer.specs.declared.token.TokenKind.TheVariants as kinds
use Rattle.cedar_parser.specs.Meant.{here}
use Rattle.cedar_policies.specs.Policies.{bare_action}
use Rattle.cedar_policy_parser.proofs.Firsts.{begins_next, no_memory}
use Rattle.cedar_policy_parser.proofs.Parts.{action_equal_given, action_in_given, action_word, any_action_given}
use Rattle.cedar_policy_parser.proofs.scope.action_constraint.Goals as goal

pub returns-in_err-variable-clause-complete : goal.returns-in_err-variable-clause-complete
returns-in_err-variable-clause-complete c x rest h =
    let s = action_word x (here c.args.tokens.now) rest h in absurd (false≢true (c.in_err-variable.ensures.present s.behind s.first))

pub returns-in_err-wanted-in-Equal-clause-complete : goal.returns-in_err-wanted-in-Equal-clause-complete
returns-in_err-wanted-in-Equal-clause-complete c x rest h = absurd (false≢true (c.in_err-wanted-in-Equal.ensures.next (search rules) (λ e. cc)))

pub returns-in_err-wanted-in-In-clause-complete : goal.returns-in_err-wanted-in-In-clause-complete
returns-in_err-wanted-in-In-clause-complete c x rest h = absurd (false≢true (c.in_err-wanted-in-In.ensures.next (search rules) (λ e. cc)))

pub returns-in_err-action-in-Equal-clause-complete : goal.returns-in_err-action-in-Equal-clause-complete
returns-in_err-action-in-Equal-clause-complete c x rest h =
    let w = c.in_ok-variable in
    let q = c.in_ok-wanted-in-Equal in
    let e = c.in_err-action-in-Equal.field-0.0 in
    no_memory bare_action x rest c.action.new.tokens c.from_residual-in_err-action-in-Equal.result e (search rules)
    (action_equal_given (λ (u : Rc EntityUID Global). bare_entity_uid u.value) x w.field-0.text.now q.field-0.text.now (here c.args.tokens.now)
    (here c.variable.new.tokens) rest c.wanted.new.tokens c.action.new.tokens (Err e) w.ensures.taken.1.first q.ensures.taken.first
    c.in_err-action-in-Equal.ensures.complete h)

pub returns-in_ok-action-in-Equal-clause-complete : goal.returns-in_ok-action-in-Equal-clause-complete
returns-in_ok-action-in-Equal-clause-complete c x rest h =
    let w = c.in_ok-variable in
    let q = c.in_ok-wanted-in-Equal in
    let o = c.in_ok-action-in-Equal in
    action_equal_given (λ (u : Rc EntityUID Global). bare_entity_uid u.value) x w.field-0.text.now q.field-0.text.now (here c.args.tokens.now)
    (here c.variable.new.tokens) rest c.wanted.new.tokens c.action.new.tokens (Ok o.field-0) w.ensures.taken.1.first q.ensures.taken.first
    o.ensures.complete h

pub returns-in_ok-wanted-in-In-clause-complete : goal.returns-in_ok-wanted-in-In-clause-complete
returns-in_ok-wanted-in-In-clause-complete c x rest h =
    let w = c.in_ok-variable in
    let q = c.in_ok-wanted-in-In in
    action_in_given bare_action x w.field-0.text.now q.field-0.text.now (here c.args.tokens.now) (here c.variable.new.tokens) rest
    c.wanted-in-In.new.tokens c.actions.new.tokens c.actions.result w.ensures.taken.1.first q.ensures.taken.first c.actions.ensures.complete h

pub returns-in_default-clause-complete : goal.returns-in_default-clause-complete
returns-in_default-clause-complete c x rest h =
    let w = c.in_ok-variable in
    let t1 = c.variable.new.tokens in
    any_action_given x w.field-0.text.now (here c.args.tokens.now) (here t1) rest w.ensures.taken.1.first
    (begins_next t1 kinds.Equal (search rules)) (begins_next t1 kinds.In (search rules)) h
