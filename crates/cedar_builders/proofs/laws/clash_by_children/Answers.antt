use Rattle.cedar_builders.proofs.Clashes.{clash_by_children}
use Rattle.cedar_builders.proofs.laws.clash_by_children.Goals as goal

pub returns : goal.returns
returns c = clash_by_children
