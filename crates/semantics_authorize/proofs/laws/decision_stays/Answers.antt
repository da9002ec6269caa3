use Rattle.semantics_authorize.proofs.Responses.{decision_stays}
use Rattle.semantics_authorize.proofs.laws.decision_stays.Goals as goal

pub returns : goal.returns
returns g c = decision_stays g.X.Ord.cmp g.X.PartialEq.eq c.decided_stays.ensures
