use Rattle.semantics_eval.proofs.OneList.{one}
use Rattle.semantics_eval.proofs.laws.one_list.Goals as goal

pub returns : goal.returns
returns g c = one g.met.X.Ord.total
