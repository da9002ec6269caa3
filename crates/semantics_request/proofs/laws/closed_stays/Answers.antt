use Rattle.semantics_request.proofs.Below.{closed_stays}
use Rattle.semantics_request.proofs.laws.closed_stays.Goals as goal

pub returns : goal.returns
returns g c = closed_stays c.asks_by_children.ensures g.X.Ord.cmp g.X.PartialEq.eq
