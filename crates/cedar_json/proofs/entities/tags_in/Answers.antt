use Rattle.std.proofs.Common.{◌≡◌, Some, rules}
use Rattle.std.specs.Prelude.{codes}
use Rattle.serde_json.specs.Find.{get}
use Rattle.serde_json.specs.View.{view}
use Rattle.cedar_builders.specs.Keys.{meant_pairs}
use Rattle.cedar_exprs.specs.BareExpr.{bare_expr}
use Rattle.cedar_json.specs.Entities.{AreAttributes}
use Rattle.cedar_json.proofs.Members.{may_have}
use Rattle.cedar_json.proofs.entities.tags_in.Goals as goal

pub returns-in-Some : goal.returns-in-Some
returns-in-Some c =
    let found : get (codes "tags") (view c.args.json.now) ≡ Some (view c.in-Some.tags.now) = search rules in
    may_have (λ ps. meant_pairs bare_expr ps.items) AreAttributes (get (codes "tags") (view c.args.json.now)) (view c.in-Some.tags.now) found
    c.attributes_of.result c.behind.result c.behind.ensures c.attributes_of.ensures
