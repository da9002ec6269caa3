use Rattle.semantics_simplify.proofs.Sound.{one_pass}
use Rattle.semantics_simplify.proofs.laws.one_pass.Goals as goal

pub returns : goal.returns
returns g c = one_pass g.X.Ord.cmp g.X.PartialEq.eq c.substituted_by_fold.ensures
