use Rattle.cedar_request.specs.Values.{tree_of}
use Rattle.cedar_entities.specs.Parts.{tags_of}
use Rattle.cedar_entities.proofs.Answered.{tree_got}
use Rattle.cedar_entities.proofs.entity_store.EntityWellFormedValueEntityData.tag.Goals as goal

pub returns : goal.returns
returns g c =
    tree_got tree_of c.args.key.now (tags_of c.args.self.now) c.get_tag.result c.get_tag.ensures
