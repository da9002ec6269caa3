use Rattle.std.proofs.Common.{◌≡◌, ap, map, ◌∙◌}
use Rattle.semantics_authorize.specs.Authorization.{authorized}
use Rattle.cedar_request_evaluator.specs.Knowledge.{functions_of, knowledge_of}
use Rattle.cedar_authorizer.specs.PartialResponses.{RespondLaterAs}
use Rattle.cedar_authorizer.specs.Policies.{bare_policy}
use Rattle.cedar_authorizer.proofs.ResidualPolicies.{residual_so}
use Rattle.cedar_authorizer.proofs.partial.is_authorized_partial.Goals as goal

pub returns-clause-later : goal.returns-clause-later
returns-clause-later g c =
    let w = c.args.evaluator.now in
    let T = functions_of g.T.CallableFunctions.bare_functions w in
    let k = knowledge_of g.S.EntityStore.bare_entities w in
    let ps = map bare_policy c.args.policies.now in
    residual_so (λ qs. qs ≡ map bare_policy c.in_ok-judge_all.field-0.residual.items)
    (RespondLaterAs g.X.Ord.cmp g.X.PartialEq.eq T k ps) c.into_response.result
    (λ qs is C l full plain.
    ap (authorized g.X.Ord.cmp g.X.PartialEq.eq T l) (is ∙ c.in_ok-judge_all.ensures.residual)
    ∙ c.residual_policies_first.ensures C T k l full plain ps)
    c.into_response.ensures.residual
