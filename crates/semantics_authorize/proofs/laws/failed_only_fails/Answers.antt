use Rattle.semantics_authorize.proofs.Verdicts as laws
use Rattle.semantics_authorize.proofs.laws.failed_only_fails.Goals as goal

pub returns : goal.returns
returns c = laws.failed_only_fails
