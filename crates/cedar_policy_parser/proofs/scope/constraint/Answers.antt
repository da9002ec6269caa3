use Rattle.std.proofs.Common.{Err, Ok, rules}
use Rattle.std.proofs.lemmas.Bool.{false≢true}
use Rattle.cedar_lexer.specs.declared.token.TokenKind.TheVariants as kinds
use Rattle.cedar_parser.specs.Meant.{here}
use Rattle.cedar_policies.specs.Policies.{bare_operand, bare_scope}
use Rattle.cedar_policy_parser.proofs.Firsts.{begins_next, no_memory}
use Rattle.cedar_policy_parser.proofs.Parts.{any_given, equal_given, in_given, is_given, scope_first}
use Rattle.cedar_policy_parser.proofs.scope.constraint.Goals as goal

pub returns-in_err-variable-clause-complete : goal.returns-in_err-variable-clause-complete
returns-in_err-variable-clause-complete c x rest h =
    let s = scope_first c.args.var c.args.slot x (here c.args.tokens.now) rest h in absurd (false≢true (c.in_err-variable.ensures.present s.behind s.first))

pub returns-in_err-wanted-in-Equal-clause-complete : goal.returns-in_err-wanted-in-Equal-clause-complete
returns-in_err-wanted-in-Equal-clause-complete c x rest h = absurd (false≢true (c.in_err-wanted-in-Equal.ensures.next (search rules) (λ e. cc)))

pub returns-in_err-wanted-in-In-clause-complete : goal.returns-in_err-wanted-in-In-clause-complete
returns-in_err-wanted-in-In-clause-complete c x rest h = absurd (false≢true (c.in_err-wanted-in-In.ensures.next (search rules) (λ e. cc)))

pub returns-in_err-wanted-in-Is-clause-complete : goal.returns-in_err-wanted-in-Is-clause-complete
returns-in_err-wanted-in-Is-clause-complete c x rest h = absurd (false≢true (c.in_err-wanted-in-Is.ensures.next (search rules) (λ e. cc)))

pub returns-in_err-operand-in-Equal-clause-complete : goal.returns-in_err-operand-in-Equal-clause-complete
returns-in_err-operand-in-Equal-clause-complete c x rest h =
    let w = c.in_ok-variable in
    let q = c.in_ok-wanted-in-Equal in
    let e = c.in_err-operand-in-Equal.field-0.0 in
    no_memory bare_scope x rest c.operand.new.tokens c.from_residual-in_err-operand-in-Equal.result e (search rules)
    (equal_given bare_operand c.args.var c.args.slot x w.field-0.text.now q.field-0.text.now (here c.args.tokens.now) (here c.variable.new.tokens) rest
    c.wanted.new.tokens c.operand.new.tokens (Err e) w.ensures.taken.1.first q.ensures.taken.first c.in_err-operand-in-Equal.ensures.complete h)

pub returns-in_ok-operand-in-Equal-clause-complete : goal.returns-in_ok-operand-in-Equal-clause-complete
returns-in_ok-operand-in-Equal-clause-complete c x rest h =
    let w = c.in_ok-variable in
    let q = c.in_ok-wanted-in-Equal in
    let o = c.in_ok-operand-in-Equal in
    equal_given bare_operand c.args.var c.args.slot x w.field-0.text.now q.field-0.text.now (here c.args.tokens.now) (here c.variable.new.tokens) rest
    c.wanted.new.tokens c.operand.new.tokens (Ok o.field-0) w.ensures.taken.1.first q.ensures.taken.first o.ensures.complete h

pub returns-in_err-operand-in-In-clause-complete : goal.returns-in_err-operand-in-In-clause-complete
returns-in_err-operand-in-In-clause-complete c x rest h =
    let w = c.in_ok-variable in
    let q = c.in_ok-wanted-in-In in
    let e = c.in_err-operand-in-In.field-0.0 in
    no_memory bare_scope x rest c.operand-in-In.new.tokens c.from_residual-in_err-operand-in-In.result e (search rules)
    (in_given bare_operand c.args.var c.args.slot x w.field-0.text.now q.field-0.text.now (here c.args.tokens.now) (here c.variable.new.tokens) rest
    c.wanted-in-In.new.tokens c.operand-in-In.new.tokens (Err e) w.ensures.taken.1.first q.ensures.taken.first
    c.in_err-operand-in-In.ensures.complete h)

pub returns-in_ok-operand-in-In-clause-complete : goal.returns-in_ok-operand-in-In-clause-complete
returns-in_ok-operand-in-In-clause-complete c x rest h =
    let w = c.in_ok-variable in
    let q = c.in_ok-wanted-in-In in
    let o = c.in_ok-operand-in-In in
    in_given bare_operand c.args.var c.args.slot x w.field-0.text.now q.field-0.text.now (here c.args.tokens.now) (here c.variable.new.tokens) rest
    c.wanted-in-In.new.tokens c.operand-in-In.new.tokens (Ok o.field-0) w.ensures.taken.1.first q.ensures.taken.first o.ensures.complete h

pub returns-in_ok-wanted-in-Is-clause-complete : goal.returns-in_ok-wanted-in-Is-clause-complete
returns-in_ok-wanted-in-Is-clause-complete c x rest h =
    let w = c.in_ok-variable in
    let q = c.in_ok-wanted-in-Is in
    is_given bare_scope c.args.var c.args.slot x w.field-0.text.now q.field-0.text.now (here c.args.tokens.now) (here c.variable.new.tokens) rest
    c.wanted-in-Is.new.tokens c.type_constraint.new.tokens c.type_constraint.result w.ensures.taken.1.first q.ensures.taken.first
    c.type_constraint.ensures.complete h

pub returns-in_default-clause-complete : goal.returns-in_default-clause-complete
returns-in_default-clause-complete c x rest h =
    let w = c.in_ok-variable in
    let t1 = c.variable.new.tokens in
    any_given c.args.var c.args.slot x w.field-0.text.now (here c.args.tokens.now) (here t1) rest w.ensures.taken.1.first
    (begins_next t1 kinds.Equal (search rules)) (begins_next t1 kinds.In (search rules)) (begins_next t1 kinds.Is (search rules)) h
