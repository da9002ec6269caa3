use Rattle.std.proofs.Common.{option_map, sym, ap, ◌∙◌}
use Rattle.std.specs.HashMap.{get_by}
use Rattle.std.specs.Rc.{rc_str_bytes}
use Rattle.std.specs.Str.{bytes_eq}
use Rattle.cedar_exprs.specs.RestrictedExprs.{binding_of, env_of}
use Rattle.cedar_exprs.proofs.BoundNodes.{of_copied}
use Rattle.cedar_exprs.proofs.ChildrenOf.{bare_at_unknown}
use Rattle.cedar_exprs.proofs.building.bound.binding.Goals as goal

pub returns-in-Unknown : goal.returns-in-Unknown
returns-in-Unknown g c =
    let V = g.V.SubstituteValue in
    let values = c.args.values.now in
    of_copied (λ v. (V.bare_type_of v, V.bare_expr_of v)) c.get.result
    ∙ ap (option_map (λ v. (V.bare_type_of v, V.bare_expr_of v))) c.get.ensures.value
    ∙ ap (λ s. option_map (λ v. (V.bare_type_of v, V.bare_expr_of v)) (get_by (λ k. bytes_eq s (rc_str_bytes k)) values)) c.as_str.ensures.value
    ∙ sym (ap (binding_of (env_of V.bare_type_of V.bare_expr_of values)) (bare_at_unknown c.args.node.now c.in-Unknown.unknown (sym c.expr_kind.ensures ∙ c.in-Unknown.is)))
