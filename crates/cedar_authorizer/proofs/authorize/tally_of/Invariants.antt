use Rattle.std.proofs.Common.{map, take}
use Rattle.semantics_authorize.specs.Authorization.{evaluated_by}
use Rattle.cedar_authorizer.specs.Policies.{bare_policy}
use Rattle.cedar_authorizer.specs.Tallies.{IsTally}
use Rattle.cedar_authorizer.proofs.authorize.tally_of.Given as goal

-- it counts the policies so far
abbrev pub invariant-loop-policy : goal.invariant-loop-policy
invariant-loop-policy g l =
    IsTally l.tally
    (map (evaluated_by (g.J.Judge.verdict_by l.judge))
    (map bare_policy (take l.policy-index l.policies)))
