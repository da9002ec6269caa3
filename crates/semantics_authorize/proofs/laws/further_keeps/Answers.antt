use Rattle.semantics_authorize.proofs.Verdicts as laws
use Rattle.semantics_authorize.proofs.laws.further_keeps.Goals as goal

pub returns : goal.returns
returns c = laws.further_keeps
