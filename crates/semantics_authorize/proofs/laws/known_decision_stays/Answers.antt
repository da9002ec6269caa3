use Rattle.semantics_authorize.proofs.Verdicts as laws
use Rattle.semantics_authorize.proofs.laws.known_decision_stays.Goals as goal

pub returns : goal.returns
returns c = laws.known_decision_stays
