use Rattle.semantics_request.proofs.PutFirst.{put_first}
use Rattle.semantics_request.proofs.laws.put_first.Goals as goal

pub returns : goal.returns
returns g c = put_first g.X.Ord.cmp g.X.PartialEq.eq c.substituted_by_fold.ensures
