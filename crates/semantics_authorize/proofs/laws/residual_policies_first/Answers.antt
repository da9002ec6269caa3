use Rattle.semantics_authorize.proofs.ResidualPolicies.{residual_policies_first}
use Rattle.semantics_authorize.proofs.laws.residual_policies_first.Goals as goal

pub returns : goal.returns
returns g c =
    residual_policies_first g.X.Ord.cmp g.X.PartialEq.eq c.decided_stays.ensures
