use Rattle.cedar_builders.proofs.Substitutions as laws
use Rattle.cedar_builders.proofs.laws.rebuilt_twice.Goals as goal

pub returns : goal.returns
returns c = laws.rebuilt_twice
