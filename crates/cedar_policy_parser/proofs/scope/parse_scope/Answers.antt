use Rattle.std.proofs.Common.{◌≡◌, Err, rules}
use Rattle.std.proofs.lemmas.Bool.{false≢true}
use Rattle.cedar_policies.specs.Policies.{bare_action, bare_scope}
use Rattle.cedar_policy_parser.proofs.Firsts.{begins_of}
use Rattle.cedar_policy_parser.proofs.Parts.{action_there, end_there, past_action, past_principal, principal_there, resource_there}
use Rattle.cedar_policy_parser.proofs.Wholes.{scope_parsed}
use Rattle.cedar_policy_parser.proofs.scope.parse_scope.Goals as goal

pub returns-clause-parses : goal.returns-clause-parses
returns-clause-parses c =
    scope_parsed (bare_scope c.in_ok-principal.principal) (bare_action c.in_ok-action.action) (bare_scope c.in_ok-resource.resource)
    c.in_ok-wanted.field-0 c.in_ok-wanted-2.field-0 c.args.tokens.now c.constraint.new.tokens c.wanted.new.tokens c.action_constraint.new.tokens
    c.wanted-2.new.tokens c.constraint-2.new.tokens c.close.new.tokens c.in_ok-principal.ensures.parses c.in_ok-wanted.ensures.taken
    c.in_ok-action.ensures.parses c.in_ok-wanted-2.ensures.taken c.in_ok-resource.ensures.parses c.in_ok-close.ensures.parses

pub returns-in_err-principal-clause-complete : goal.returns-in_err-principal-clause-complete
returns-in_err-principal-clause-complete c p a r rest h =
    let same : c.from_residual.result ≡ Err c.in_err-principal.field-0.0 = search rules in
    rw same (c.in_err-principal.ensures.complete p (past_principal h) (principal_there h))

pub returns-in_err-wanted-clause-complete : goal.returns-in_err-wanted-clause-complete
returns-in_err-wanted-clause-complete c p a r rest h =
    let g1 = c.in_ok-principal.ensures.complete p (past_principal h) (principal_there h) in
    absurd (false≢true (c.in_err-wanted.ensures.present (begins_of g1.1)))

pub returns-in_err-action-clause-complete : goal.returns-in_err-action-clause-complete
returns-in_err-action-clause-complete c p a r rest h =
    let g1 = c.in_ok-principal.ensures.complete p (past_principal h) (principal_there h) in
    let same : c.from_residual-in_err-action.result ≡ Err c.in_err-action.field-0.0 = search rules in
    rw same (c.in_err-action.ensures.complete a (past_action h) (action_there h g1.1 c.in_ok-wanted.ensures.taken.first))

pub returns-in_err-wanted-2-clause-complete : goal.returns-in_err-wanted-2-clause-complete
returns-in_err-wanted-2-clause-complete c p a r rest h =
    let g1 = c.in_ok-principal.ensures.complete p (past_principal h) (principal_there h) in
    let g3 = c.in_ok-action.ensures.complete a (past_action h) (action_there h g1.1 c.in_ok-wanted.ensures.taken.first) in
    absurd (false≢true (c.in_err-wanted-2.ensures.present (begins_of g3.1)))

pub returns-in_err-resource-clause-complete : goal.returns-in_err-resource-clause-complete
returns-in_err-resource-clause-complete c p a r rest h =
    let g1 = c.in_ok-principal.ensures.complete p (past_principal h) (principal_there h) in
    let g3 = c.in_ok-action.ensures.complete a (past_action h) (action_there h g1.1 c.in_ok-wanted.ensures.taken.first) in
    let same : c.from_residual-in_err-resource.result ≡ Err c.in_err-resource.field-0.0 = search rules in
    rw same (c.in_err-resource.ensures.complete r h.before_end (resource_there h g3.1 c.in_ok-wanted-2.ensures.taken.first))

pub returns-in_err-close-clause-complete : goal.returns-in_err-close-clause-complete
returns-in_err-close-clause-complete c p a r rest h =
    let g1 = c.in_ok-principal.ensures.complete p (past_principal h) (principal_there h) in
    let g3 = c.in_ok-action.ensures.complete a (past_action h) (action_there h g1.1 c.in_ok-wanted.ensures.taken.first) in
    let g5 = c.in_ok-resource.ensures.complete r h.before_end (resource_there h g3.1 c.in_ok-wanted-2.ensures.taken.first) in
    absurd (c.in_err-close.ensures.complete rest (end_there h g5.1))

pub returns-clause-complete : goal.returns-clause-complete
returns-clause-complete c p a r rest h =
    let g1 = c.in_ok-principal.ensures.complete p (past_principal h) (principal_there h) in
    let g3 = c.in_ok-action.ensures.complete a (past_action h) (action_there h g1.1 c.in_ok-wanted.ensures.taken.first) in
    let g5 = c.in_ok-resource.ensures.complete r h.before_end (resource_there h g3.1 c.in_ok-wanted-2.ensures.taken.first) in
    (record { principal = g1.0; action = g3.0; resource = g5.0 }, c.in_ok-close.ensures.complete rest (end_there h g5.1))
