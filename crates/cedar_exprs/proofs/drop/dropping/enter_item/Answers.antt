use Rattle.std.proofs.Common.{arith, subst}
use Rattle.cedar_iterative_drop.specs.Rows.{IsTaken}
use Rattle.cedar_exprs.specs.Steps.{below_nodes}
use Rattle.cedar_exprs.proofs.drop.dropping.enter_item.Goals as goal

pub returns-in-Subtrees : goal.returns-in-Subtrees
returns-in-Subtrees g c m w n item row = let is = subst (IsTaken below_nodes m w n) c.in-Subtrees.is item in (omega (arith, is.0, row), omega (arith, is.1, row))

pub returns-in-AfterLeaf : goal.returns-in-AfterLeaf
returns-in-AfterLeaf g c m w n item row = let is = subst (IsTaken below_nodes m w n) c.in-AfterLeaf.is item in omega (arith, is, row)
