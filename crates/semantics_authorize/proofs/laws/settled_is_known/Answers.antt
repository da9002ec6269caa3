use Rattle.semantics_authorize.proofs.Verdicts as laws
use Rattle.semantics_authorize.proofs.laws.settled_is_known.Goals as goal

pub returns : goal.returns
returns c = laws.settled_is_known
