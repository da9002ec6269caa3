use Rattle.semantics_authorize.proofs.Responses.{residual_first}
use Rattle.semantics_authorize.proofs.laws.residual_first.Goals as goal

pub returns : goal.returns
returns g c = residual_first g.X.Ord.cmp g.X.PartialEq.eq c.residual_first.ensures
