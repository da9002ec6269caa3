use Rattle.cedar_entities.proofs.Stored.{all_parents, clones_alike, stay}
use Rattle.cedar_entities.proofs.entities.Entities.add_entities.Goals as goal

pub with-requires : goal.with-requires
with-requires g c = λ u copy h. clones_alike u copy h.0

pub returns-clause-stays : goal.returns-clause-stays
returns-clause-stays g c =
    stay c.args.self.store c.in_ok-store.store c.in_ok-store.ensures.added.stays

pub returns-clause-parents : goal.returns-clause-parents
returns-clause-parents g c =
    λ part. all_parents c.in_ok-store.store (c.in_ok-store.ensures.parents part)
