use Rattle.semantics_authorize.proofs.Verdicts as laws
use Rattle.semantics_authorize.proofs.laws.order_is_free.Goals as goal

pub returns : goal.returns
returns c = laws.order_is_free
