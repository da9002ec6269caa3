use Rattle.std.proofs.Common.{◌≡◌, map, take, sym, ap, subst, ◌∙◌}
use Rattle.semantics_authorize.specs.Authorization.{evaluated_by}
use Rattle.semantics_authorize.specs.ResidualPolicies.{residual_policies}
use Rattle.cedar_authorizer.specs.Policies.{bare_policy}
use Rattle.cedar_authorizer.specs.Tallies.{IsTally}
use Rattle.cedar_authorizer.specs.Verdicts.{bare_verdict}
use Rattle.cedar_authorizer.proofs.ResidualPolicies.{residual_more}
use Rattle.cedar_authorizer.proofs.Taken.{taken_more}
use Rattle.cedar_authorizer.proofs.Tallies.{tally_more}
use Rattle.cedar_authorizer.proofs.partial.judge_all.Goals as goal

pub loop-policy-preserved : goal.loop-policy-preserved
loop-policy-preserved g c =
    let J = g.J.Judge.verdict_by c.args.judge.now in
    let all = c.args.policies.now in
    let i = c.loop-policy.policy-index in
    let p = c.policy-item.result in
    let before = map bare_policy (take i all) in
    let v = bare_verdict c.in_ok-verdict.verdict in
    let next = taken_more bare_policy all i p c.loop-policy-test.true c.policy-item.is in
    let same = c.in_ok-verdict.ensures ∙ ap J c.condition.ensures in (
      subst (λ ps. IsTally c.add.new.self (map (evaluated_by J) ps)) (sym next)
          (tally_more J c.loop-policy.tally c.add.new.self before (bare_policy p) v
          c.loop-policy.invariant.0 same c.in_ok-add.ensures),
      subst (λ ps. map bare_policy c.leave.new.residual.items ≡ residual_policies J ps) (sym next)
          (residual_more J before (bare_policy p) v (map bare_policy c.loop-policy.residual.items)
          (map bare_policy c.leave.new.residual.items) c.loop-policy.invariant.1 same
          c.in_ok-leave.ensures),
    )
