use Rattle.semantics_authorize.proofs.Responses.{request_put_first}
use Rattle.semantics_authorize.proofs.laws.request_put_first.Goals as goal

pub returns : goal.returns
returns g c = request_put_first g.X.Ord.cmp g.X.PartialEq.eq c.request_put_first.ensures
