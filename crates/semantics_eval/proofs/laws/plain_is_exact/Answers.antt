use Rattle.semantics_eval.proofs.Exact.{exact}
use Rattle.semantics_eval.proofs.laws.plain_is_exact.Goals as goal

pub returns : goal.returns
returns g c = exact g.X.Ord.cmp
