use Rattle.std.proofs.Common.{◌≡◌, Some, rules}
use Rattle.std.specs.Prelude.{codes}
use Rattle.serde_json.specs.Find.{get}
use Rattle.serde_json.specs.View.{view}
use Rattle.cedar_exprs.specs.BareExpr.{bare_expr}
use Rattle.cedar_json.proofs.Objects.{entity_marked}
use Rattle.cedar_json.proofs.values.marked.Goals as goal

pub returns-in-Some : goal.returns-in-Some
returns-in-Some c =
    let d = view c.args.json.now in
    let found : get (codes "__entity") d ≡ Some (view c.in-Some.entity.now) = search rules in
    entity_marked bare_expr c.entity_of.result d (view c.in-Some.entity.now) found c.entity_of.ensures
