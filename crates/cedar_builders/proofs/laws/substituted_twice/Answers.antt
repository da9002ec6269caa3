use Rattle.cedar_builders.proofs.Substitutions as laws
use Rattle.cedar_builders.proofs.laws.substituted_twice.Goals as goal

pub returns : goal.returns
returns g c = laws.substituted_twice g.B.ExprBuilder.ops g.met.B.LawfulExprBuilder.lawful
