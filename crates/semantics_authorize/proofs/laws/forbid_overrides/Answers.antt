use Rattle.semantics_authorize.proofs.Verdicts as laws
use Rattle.semantics_authorize.proofs.laws.forbid_overrides.Goals as goal

pub returns : goal.returns
returns c = laws.forbid_overrides
