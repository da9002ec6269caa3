use Rattle.cedar_exprs.proofs.DataTrees.{data_is}
use Rattle.cedar_exprs.proofs.laws.data_by_children.Goals as goal

pub returns : goal.returns
returns g c = data_is
