use Rattle.cedar_builders.proofs.TreeOps.{fold_at_trees}
use Rattle.cedar_builders.proofs.laws.substituted_by_fold.Goals as goal

pub returns : goal.returns
returns c = fold_at_trees
