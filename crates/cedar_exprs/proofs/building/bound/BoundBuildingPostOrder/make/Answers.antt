use Rattle.std.proofs.Common.{sym, ap, ◌∙◌}
use Rattle.std.specs.Prelude.{option_map}
use Rattle.cedar_exprs.specs.BareExpr.{bare_expr}
use Rattle.cedar_exprs.specs.RestrictedExprs.{env_of}
use Rattle.cedar_exprs.proofs.BoundNodes.{bound_built, plain_built}
use Rattle.cedar_exprs.proofs.building.bound.BoundBuildingPostOrder.make.Goals as goal

pub returns-in-Some : goal.returns-in-Some
returns-in-Some g c =
    let B = g.B.ExprBuilder in
    let V = g.V.SubstituteValue in
    bound_built B.ops B.meaning_of B.fault_of (env_of V.bare_type_of V.bare_expr_of c.args.self.now.values.now) (bare_expr c.args.node.now) _
    (sym (ap (option_map (λ v. (V.bare_type_of v.now, V.bare_expr_of v.now))) c.in-Some.is) ∙ c.binding.ensures)
    c.args.done.now.items c.put_value.new.done.items c.put_value.result c.put_value.ensures

pub returns-in-None : goal.returns-in-None
returns-in-None g c =
    let B = g.B.ExprBuilder in
    let V = g.V.SubstituteValue in
    plain_built B.ops B.meaning_of B.fault_of (env_of V.bare_type_of V.bare_expr_of c.args.self.now.values.now) (bare_expr c.args.node.now)
    (sym (ap (option_map (λ v. (V.bare_type_of v.now, V.bare_expr_of v.now))) c.in-None.is) ∙ c.binding.ensures)
    _ _ _ c.make.result c.make.ensures
