use Rattle.serde_json.specs.View.{view}
use Rattle.cedar_terms.specs.Entities.{bare_entity_uid}
use Rattle.cedar_json.specs.Entities.{IsUid}
use Rattle.cedar_json.proofs.Nothing.{given}
use Rattle.cedar_json.proofs.Once.{one_uid}
use Rattle.cedar_json.proofs.entities.uid_of.Goals as goal

pub returns-clause-complete : goal.returns-clause-complete
returns-clause-complete c =
    let d = view c.args.json.now in
    given (IsUid d) bare_entity_uid (one_uid c.name_texts_differ.ensures d) c.meant_uid.result c.meant_uid.ensures
