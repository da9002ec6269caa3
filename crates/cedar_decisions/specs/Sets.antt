-- The policies of a set that decide.
use Rattle.std.specs.Prelude.{List}
use Rattle.semantics_authorize.specs.Policies as meant
use Rattle.cedar_policies.specs.PolicySets.{bare_policies, ids_of}
use Rattle.cedar_policies.specs.declared.policy_set.Policy.{Policy}
use Rattle.cedar_decisions.specs.Decisions.{deciding}

abbrev pub deciding_in : List Policy → List meant.Policy
deciding_in ps = deciding (ids_of ps) (bare_policies ps)
