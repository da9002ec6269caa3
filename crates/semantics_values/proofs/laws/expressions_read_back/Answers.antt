use Rattle.semantics_values.proofs.ReadBack.{reads_back}
use Rattle.semantics_values.proofs.laws.expressions_read_back.Goals as goal

pub returns : goal.returns
returns g c C t w = reads_back g.met.X.Ord.total C g.X.PartialEq.eq g.met.X.Ord.matches_eq t w
