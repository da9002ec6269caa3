use Rattle.cedar_simplifier.proofs.Operands.{open_path}
use Rattle.cedar_simplifier.proofs.operations.has.Goals as goal

pub returns-in-None : goal.returns-in-None
returns-in-None g c = open_path _ _ _ c.in-None.ensures.value
