use Rattle.std.proofs.Common.{◌≡◌, map, take}
use Rattle.cedar_authorizer.specs.Policies.{bare_policy}
use Rattle.cedar_decisions.specs.Sets.{deciding_in}
use Rattle.cedar_decisions.proofs.deciding.deciding_policies.Given as goal

-- those so far
abbrev pub invariant-loop-policy : goal.invariant-loop-policy
invariant-loop-policy l =
    map bare_policy l.deciding.items ≡ deciding_in (take l.policy-index l.policy-items)
