use Rattle.std.proofs.Common.{◌≡◌, map, take}
use Rattle.semantics_authorize.specs.Authorization.{evaluated_by}
use Rattle.semantics_authorize.specs.ResidualPolicies.{residual_policies}
use Rattle.cedar_authorizer.specs.Policies.{bare_policy}
use Rattle.cedar_authorizer.specs.Tallies.{IsTally}
use Rattle.cedar_authorizer.proofs.partial.judge_all.Given as goal

-- it counts the policies so far, and has what is left of them
abbrev pub invariant-loop-policy : goal.invariant-loop-policy
invariant-loop-policy g l =
    let J = g.J.Judge.verdict_by l.judge in
    let ps = map bare_policy (take l.policy-index l.policies) in
    IsTally l.tally (map (evaluated_by J) ps)
    × (map bare_policy l.residual.items ≡ residual_policies J ps)
