use Rattle.semantics_simplify.specs.Asks.{passes}
use Rattle.semantics_simplify.proofs.Calls.{by_children}
use Rattle.semantics_simplify.proofs.laws.asks_by_children.Goals as goal

pub returns : goal.returns
returns c Q e = by_children (passes Q) e
