use Rattle.cedar_builders.proofs.Substitutions as laws
use Rattle.cedar_builders.proofs.laws.built_after.Goals as goal

pub returns : goal.returns
returns g c = laws.built_after g.B.ExprBuilder.ops g.met.B.LawfulExprBuilder.lawful
