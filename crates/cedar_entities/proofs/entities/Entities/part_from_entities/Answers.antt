use Rattle.std.proofs.Common.{refl}
use Rattle.cedar_entities.proofs.Stored.{all_parents, clones_alike}
use Rattle.cedar_entities.proofs.entities.Entities.part_from_entities.Goals as goal

pub of-requires : goal.of-requires
of-requires g c = λ u copy h. clones_alike u copy h.0

pub returns-clause-parents : goal.returns-clause-parents
returns-clause-parents g c =
    all_parents c.in_ok-store.store (c.in_ok-store.ensures.parents refl)
