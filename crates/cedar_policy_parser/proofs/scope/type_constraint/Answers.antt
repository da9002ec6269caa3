use Rattle.std.proofs.Common.{Err, Ok, rules}
use Rattle.std.proofs.lemmas.Bool.{false≢true}
use Rattle.cedar_lexer.specs.declared.token.TokenKind.TheVariants as kinds
use Rattle.cedar_parser.specs.Meant.{here}
use Rattle.cedar_policies.specs.Policies.{bare_operand, bare_scope}
use Rattle.cedar_policy_parser.proofs.Firsts.{begins_next, no_memory}
use Rattle.cedar_policy_parser.proofs.Parts.{type_given, type_in_given}
use Rattle.cedar_terms.specs.Entities.{bare_entity_type}
use Rattle.cedar_policy_parser.proofs.Constraints.{type_parsed}
use Rattle.cedar_policy_parser.proofs.scope.type_constraint.Goals as goal

pub returns-in_default-clause-parses : goal.returns-in_default-clause-parses
returns-in_default-clause-parses c =
    type_parsed c.args.slot (bare_entity_type c.in_ok-ty.ty) c.args.tokens.now c.entity_type.new.tokens c.in_ok-ty.ensures.parses

pub returns-in_err-ty-clause-complete : goal.returns-in_err-ty-clause-complete
returns-in_err-ty-clause-complete c x rest h =
    let e = c.in_err-ty.field-0.0 in
    no_memory bare_scope x rest c.entity_type.new.tokens c.from_residual.result e (search rules)
    (c.in_err-ty.ensures.complete h.name h.behind h.path)

pub returns-in_err-wanted-in-In-clause-complete : goal.returns-in_err-wanted-in-In-clause-complete
returns-in_err-wanted-in-In-clause-complete c x rest h = absurd (false≢true (c.in_err-wanted-in-In.ensures.next (search rules) (λ e. cc)))

pub returns-in_err-operand-in-In-clause-complete : goal.returns-in_err-operand-in-In-clause-complete
returns-in_err-operand-in-In-clause-complete c x rest h =
    let g = c.in_ok-ty.ensures.complete h.name h.behind h.path in
    let q = c.in_ok-wanted-in-In in
    let e = c.in_err-operand-in-In.field-0.0 in
    no_memory bare_scope x rest c.operand.new.tokens c.from_residual-in_err-operand-in-In.result e (search rules)
    (type_in_given bare_operand c.args.slot (bare_entity_type c.in_ok-ty.ty) h.name x q.field-0.text.now (here c.entity_type.new.tokens) h.behind rest
    c.wanted.new.tokens c.operand.new.tokens (Err e) g.0 g.1 q.ensures.taken.first c.in_err-operand-in-In.ensures.complete h.left)

pub returns-in_ok-operand-in-In-clause-complete : goal.returns-in_ok-operand-in-In-clause-complete
returns-in_ok-operand-in-In-clause-complete c x rest h =
    let g = c.in_ok-ty.ensures.complete h.name h.behind h.path in
    let q = c.in_ok-wanted-in-In in
    let o = c.in_ok-operand-in-In in
    type_in_given bare_operand c.args.slot (bare_entity_type c.in_ok-ty.ty) h.name x q.field-0.text.now (here c.entity_type.new.tokens) h.behind rest
    c.wanted.new.tokens c.operand.new.tokens (Ok o.field-0) g.0 g.1 q.ensures.taken.first o.ensures.complete h.left

pub returns-in_default-clause-complete : goal.returns-in_default-clause-complete
returns-in_default-clause-complete c x rest h =
    let g = c.in_ok-ty.ensures.complete h.name h.behind h.path in
    let t1 = c.entity_type.new.tokens in
    type_given c.args.slot (bare_entity_type c.in_ok-ty.ty) h.name x (here t1) h.behind rest g.0 g.1 (begins_next t1 kinds.In (search rules)) h.left
