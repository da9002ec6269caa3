use Rattle.semantics_eval.proofs.Closed.{never}
use Rattle.semantics_eval.proofs.laws.never_open.Goals as goal

pub returns : goal.returns
returns g c C = never g.X.Ord.cmp g.X.PartialEq.eq C
