use Rattle.cedar_builders.proofs.Substitutions as laws
use Rattle.cedar_builders.proofs.laws.then_is_not_always_both.Goals as goal

pub returns : goal.returns
returns c = laws.then_is_not_always_both
