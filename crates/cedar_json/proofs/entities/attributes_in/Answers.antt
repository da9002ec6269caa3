use Rattle.std.proofs.Common.{◌≡◌, None, Some, rules}
use Rattle.std.specs.Prelude.{codes}
use Rattle.serde_json.specs.Find.{get}
use Rattle.serde_json.specs.View.{view}
use Rattle.cedar_builders.specs.Keys.{meant_pairs}
use Rattle.cedar_exprs.specs.BareExpr.{bare_expr}
use Rattle.cedar_json.specs.Entities.{AreAttributes}
use Rattle.cedar_json.proofs.Members.{had, lacking}
use Rattle.cedar_json.proofs.entities.attributes_in.Goals as goal

pub returns-in-Some : goal.returns-in-Some
returns-in-Some c =
    let found : get (codes "attrs") (view c.args.json.now) ≡ Some (view c.in-Some.attrs.now) = search rules in
    had (λ ps. meant_pairs bare_expr ps.items) AreAttributes (get (codes "attrs") (view c.args.json.now)) (view c.in-Some.attrs.now) found
    c.attributes_of.result c.behind.result c.behind.ensures c.attributes_of.ensures

pub returns-in-None : goal.returns-in-None
returns-in-None c =
    let none : get (codes "attrs") (view c.args.json.now) ≡ None = search rules in
    lacking AreAttributes (get (codes "attrs") (view c.args.json.now)) none c.missing.result
