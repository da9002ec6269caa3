use Rattle.std.proofs.Common.{◌≡◌, None, Some, map, rules}
use Rattle.std.specs.Prelude.{codes}
use Rattle.serde_json.specs.Find.{get}
use Rattle.serde_json.specs.View.{view}
use Rattle.cedar_terms.specs.Entities.{bare_entity_uid}
use Rattle.cedar_json.specs.Entities.{AreParents}
use Rattle.cedar_json.proofs.Members.{had, lacking}
use Rattle.cedar_json.proofs.entities.parents_in.Goals as goal

pub returns-in-Some : goal.returns-in-Some
returns-in-Some c =
    let found : get (codes "parents") (view c.args.json.now) ≡ Some (view c.in-Some.parents.now) = search rules in
    had (λ us. map bare_entity_uid us.items) AreParents (get (codes "parents") (view c.args.json.now)) (view c.in-Some.parents.now) found
    c.parents_of.result c.behind.result c.behind.ensures c.parents_of.ensures

pub returns-in-None : goal.returns-in-None
returns-in-None c =
    let none : get (codes "parents") (view c.args.json.now) ≡ None = search rules in
    lacking AreParents (get (codes "parents") (view c.args.json.now)) none c.missing.result
