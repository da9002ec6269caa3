use Rattle.semantics_authorize.proofs.Responses.{put_first}
use Rattle.semantics_authorize.proofs.laws.put_first.Goals as goal

pub returns : goal.returns
returns g c = put_first g.X.Ord.cmp g.X.PartialEq.eq c.put_first.ensures
