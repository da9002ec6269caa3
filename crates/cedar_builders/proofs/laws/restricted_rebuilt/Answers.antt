use Rattle.cedar_builders.proofs.Substitutions as laws
use Rattle.cedar_builders.proofs.laws.restricted_rebuilt.Goals as goal

pub returns : goal.returns
returns c = laws.restricted_rebuilt
