use Rattle.std.proofs.Common.{◌≡◌, None, Some, rules}
use Rattle.std.specs.Prelude.{codes}
use Rattle.serde_json.specs.Find.{get}
use Rattle.serde_json.specs.View.{view}
use Rattle.cedar_terms.specs.Entities.{bare_entity_uid}
use Rattle.cedar_json.specs.Entities.{IsUid}
use Rattle.cedar_json.proofs.Members.{had, lacking}
use Rattle.cedar_json.proofs.entities.uid_in.Goals as goal

pub returns-in-Some : goal.returns-in-Some
returns-in-Some c =
    let found : get (codes "uid") (view c.args.json.now) ≡ Some (view c.in-Some.uid.now) = search rules in
    had bare_entity_uid IsUid (get (codes "uid") (view c.args.json.now)) (view c.in-Some.uid.now) found
    c.meant_uid.result c.behind.result c.behind.ensures c.meant_uid.ensures

pub returns-in-None : goal.returns-in-None
returns-in-None c =
    let none : get (codes "uid") (view c.args.json.now) ≡ None = search rules in
    lacking IsUid (get (codes "uid") (view c.args.json.now)) none c.missing.result
