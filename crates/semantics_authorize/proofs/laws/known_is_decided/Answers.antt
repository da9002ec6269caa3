use Rattle.semantics_authorize.proofs.Responses.{known_is_decided}
use Rattle.semantics_authorize.proofs.laws.known_is_decided.Goals as goal

pub returns : goal.returns
returns g c = known_is_decided g.X.Ord.cmp g.X.PartialEq.eq c.never_open.ensures
