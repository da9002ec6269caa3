use Rattle.semantics_authorize.proofs.Verdicts as laws
use Rattle.semantics_authorize.proofs.laws.decision_is_exact.Goals as goal

pub returns : goal.returns
returns c = laws.exact
