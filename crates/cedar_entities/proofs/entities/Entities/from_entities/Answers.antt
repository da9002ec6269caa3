use Rattle.cedar_entities.proofs.Stored.{clones_alike}
use Rattle.cedar_entities.proofs.entities.Entities.from_entities.Goals as goal

pub of-requires : goal.of-requires
of-requires g c = λ u copy h. clones_alike u copy h.0
