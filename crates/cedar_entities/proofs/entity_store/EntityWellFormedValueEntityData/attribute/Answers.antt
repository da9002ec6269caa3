use Rattle.cedar_request.specs.Values.{tree_of}
use Rattle.cedar_entities.specs.Parts.{attributes_of}
use Rattle.cedar_entities.proofs.Answered.{tree_got}
use Rattle.cedar_entities.proofs.entity_store.EntityWellFormedValueEntityData.attribute.Goals as goal

pub returns : goal.returns
returns g c =
    tree_got tree_of c.args.key.now (attributes_of c.args.self.now) c.get.result c.get.ensures
