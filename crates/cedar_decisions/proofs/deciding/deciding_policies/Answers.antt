use Rattle.std.proofs.Common.{map}
use Rattle.cedar_authorizer.specs.Policies.{bare_policy}
use Rattle.cedar_decisions.proofs.Added.{deciding_more}
use Rattle.cedar_decisions.proofs.deciding.deciding_policies.Goals as goal

pub loop-policy-preserved : goal.loop-policy-preserved
loop-policy-preserved c =
    deciding_more (map bare_policy c.loop-policy.deciding.items)
    (map bare_policy c.add_deciding.new.deciding.items) _
    c.loop-policy.policy-index c.policy-item.result c.loop-policy-test.true c.policy-item.is
    c.loop-policy.invariant c.in_ok-add_deciding.ensures
