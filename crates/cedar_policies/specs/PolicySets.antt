-- Policies with their identifiers.
use Rattle.std.specs.Prelude.{◌≡◌, List, map, IsTrue}
use Rattle.std.specs.Rc.{rc_str_bytes}
use Rattle.cedar_builders.specs.BareExpr.{Text}
use Rattle.cedar_builders.specs.Keys.{are_distinct}
use Rattle.semantics_policies.specs.Identifiers.{policy_ids}
use Rattle.semantics_policies.specs.Policies.{BarePolicy}
use Rattle.cedar_policies.specs.Policies.{bare_policy}
use Rattle.cedar_policies.specs.declared.policy_set.Policy.{Policy}
use Rattle.cedar_policies.specs.declared.policy_set.PolicySet.{PolicySet}

-- the policies of a set, in the order in which they were parsed
abbrev pub policies_of : PolicySet → List Policy
policies_of s = s.policies.items

-- what they say
abbrev pub bare_policies : List Policy → List BarePolicy
bare_policies = map (λ p. bare_policy p.template)

-- what they are called
abbrev pub ids_of : List Policy → List Text
ids_of = map (λ p. rc_str_bytes p.id)

-- each has its identifier, and no two have the same
pub record AreNamed (ps : List Policy) : Type 0 where
  pub ids : ids_of ps ≡ policy_ids 0 (bare_policies ps)
  pub distinct : IsTrue (are_distinct (ids_of ps))
