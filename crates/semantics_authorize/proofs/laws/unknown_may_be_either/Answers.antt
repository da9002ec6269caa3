use Rattle.semantics_authorize.proofs.Verdicts as laws
use Rattle.semantics_authorize.proofs.laws.unknown_may_be_either.Goals as goal

pub returns : goal.returns
returns c = laws.unknown_may_be_either
