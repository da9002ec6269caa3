use Rattle.cedar_entities.proofs.Parts.{parts_stay}
use Rattle.cedar_entities.proofs.laws.parts_stay.Goals as goal

pub returns : goal.returns
returns g c = parts_stay
