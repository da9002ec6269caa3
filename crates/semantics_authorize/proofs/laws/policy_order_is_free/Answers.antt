use Rattle.semantics_authorize.proofs.Responses.{policy_order_is_free}
use Rattle.semantics_authorize.proofs.laws.policy_order_is_free.Goals as goal

pub returns : goal.returns
returns g c = policy_order_is_free g.X.Ord.cmp g.X.PartialEq.eq
