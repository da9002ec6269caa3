use Rattle.semantics_authorize.proofs.Responses.{store_in_parts}
use Rattle.semantics_authorize.proofs.laws.store_in_parts.Goals as goal

pub returns : goal.returns
returns g c = store_in_parts g.X.Ord.cmp g.X.PartialEq.eq c.store_in_parts.ensures
