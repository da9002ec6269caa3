use Rattle.std.proofs.Common.{◌≡◌, None, sym, ◌∙◌, ap}
use Rattle.std.specs.Global.{Global}
use Rattle.std.specs.Option.{option_map}
use Rattle.std.specs.declared.rc.Rc.{Rc}
use Rattle.cedar_terms.specs.Entities.{bare_entity_uid}
use Rattle.cedar_terms.specs.declared.entity.EntityUID.{EntityUID}
use Rattle.cedar_exprs.specs.BareExpr.{bare_expr}
use Rattle.cedar_policy_parser.specs.Scopes.{entity_of}
use Rattle.cedar_policy_parser.proofs.EntityTrees.{entity_at}
use Rattle.cedar_policy_parser.proofs.entities.entities_in.Goals as goal

pub returns-in-None-clause-present : goal.returns-in-None-clause-present
returns-in-None-clause-present c us h =
    let item = c.expr-item in
    let none : None ≡ entity_of (bare_expr item.result) =
    ap (option_map (λ (u : Rc EntityUID Global). bare_entity_uid u.value)) (sym c.in-None.is) ∙ c.in_ok-uid.ensures in
    absurd (entity_at bare_expr c.args.exprs.now c.loop-expr.expr-index item.result us c.loop-expr-test.true item.is h none)
