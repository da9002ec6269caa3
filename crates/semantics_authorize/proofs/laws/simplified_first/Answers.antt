use Rattle.semantics_authorize.proofs.Responses.{simplified_first}
use Rattle.semantics_authorize.proofs.laws.simplified_first.Goals as goal

pub returns : goal.returns
returns g c = simplified_first g.X.Ord.cmp g.X.PartialEq.eq c.simplified_first.ensures
