use Rattle.semantics_authorize.proofs.Verdicts as laws
use Rattle.semantics_authorize.proofs.laws.deny_by_default.Goals as goal

pub returns : goal.returns
returns c = laws.deny_by_default
