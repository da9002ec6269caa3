use Rattle.semantics_eval.proofs.Decided.{stays}
use Rattle.semantics_eval.proofs.laws.decided_stays.Goals as goal

pub returns : goal.returns
returns g c C = stays g.X.Ord.cmp g.X.PartialEq.eq C
