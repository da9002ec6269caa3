use Rattle.cedar_entities.proofs.Parts.{ancestors_are_reached}
use Rattle.cedar_entities.proofs.laws.ancestors_are_reached.Goals as goal

pub returns : goal.returns
returns g c = ancestors_are_reached
