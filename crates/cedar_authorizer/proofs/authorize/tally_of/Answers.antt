use Rattle.std.proofs.Common.{map, take, sym, ap, subst, ◌∙◌}
use Rattle.semantics_authorize.specs.Authorization.{evaluated_by}
use Rattle.cedar_authorizer.specs.Policies.{bare_policy}
use Rattle.cedar_authorizer.specs.Tallies.{IsTally}
use Rattle.cedar_authorizer.specs.Verdicts.{bare_verdict}
use Rattle.cedar_authorizer.proofs.Taken.{taken_more}
use Rattle.cedar_authorizer.proofs.Tallies.{tally_more}
use Rattle.cedar_authorizer.proofs.authorize.tally_of.Goals as goal

pub loop-policy-preserved : goal.loop-policy-preserved
loop-policy-preserved g c =
    let J = g.J.Judge.verdict_by c.args.judge.now in
    let all = c.args.policies.now in
    let i = c.loop-policy.policy-index in
    let p = c.policy-item.result in
    subst (λ ps. IsTally c.add.new.self (map (evaluated_by J) ps))
    (sym (taken_more bare_policy all i p c.loop-policy-test.true c.policy-item.is))
    (tally_more J c.loop-policy.tally c.add.new.self (map bare_policy (take i all)) (bare_policy p)
    (bare_verdict c.in_ok-verdict.verdict) c.loop-policy.invariant
    (c.in_ok-verdict.ensures ∙ ap J c.condition.ensures) c.in_ok-add.ensures)
