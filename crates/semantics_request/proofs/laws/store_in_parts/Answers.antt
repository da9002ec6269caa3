use Rattle.semantics_request.proofs.StoreParts.{store_in_parts}
use Rattle.semantics_request.proofs.laws.store_in_parts.Goals as goal

pub returns : goal.returns
returns g c = store_in_parts g.X.Ord.cmp g.X.PartialEq.eq c.decided_stays.ensures
