use Rattle.std.proofs.Common.{map, ap, refl, IsTrue, subst, ◌∙◌}
use Rattle.cedar_builders.specs.Keys.{are_distinct}
use Rattle.cedar_policies.specs.PolicySets.{bare_policies, policies_of}
use Rattle.cedar_authorizer.specs.Policies.{bare_policy}
use Rattle.cedar_decisions.proofs.Partly.{partly_decided}
use Rattle.cedar_decisions.proofs.partial.decide_partial.Goals as goal

pub returns-clause-decided : goal.returns-clause-decided
returns-clause-decided g c =
    let said = c.in_ok-is_authorized_partial.ensures in
    let parsed = c.in_ok-set.ensures in
    record {
      policies = bare_policies (policies_of c.in_ok-set.set);
      stand = parsed.parses;
      distinct = subst (λ is. IsTrue (are_distinct is)) parsed.ids parsed.distinct;
      decided = partly_decided _ _ _ _ (policies_of c.in_ok-set.set)
          (map bare_policy c.deref.result.now) c.in_ok-is_authorized_partial.field-0 parsed.ids
          (ap (map bare_policy) c.deref.ensures.value ∙ c.in_ok-policies.ensures)
          said.decision said.later _ refl;
    }

pub returns-clause-complete : goal.returns-clause-complete
returns-clause-complete g c qs stand distinct =
    let said = c.in_ok-is_authorized_partial.ensures in
    let parsed = c.in_ok-set.ensures in
    partly_decided _ _ _ _ (policies_of c.in_ok-set.set)
    (map bare_policy c.deref.result.now) c.in_ok-is_authorized_partial.field-0 parsed.ids
    (ap (map bare_policy) c.deref.ensures.value ∙ c.in_ok-policies.ensures)
    said.decision said.later qs (parsed.complete qs stand distinct)
