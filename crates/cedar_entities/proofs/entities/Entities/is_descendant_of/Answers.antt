use Rattle.cedar_entities.proofs.Stored.{if_descends}
use Rattle.cedar_entities.proofs.entities.Entities.is_descendant_of.Goals as goal

pub returns : goal.returns
returns g c =
    if_descends c.args.self.now.store c.args.child.now c.args.ancestor.now
    c.is_descendant_of.result c.is_descendant_of.ensures
