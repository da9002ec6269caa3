use Rattle.std.proofs.Common.{option_map, sym, ap, ◌∙◌}
use Rattle.std.specs.HashMap.{get_by}
use Rattle.std.specs.Rc.{rc_str_bytes}
use Rattle.std.specs.Str.{bytes_eq}
use Rattle.cedar_exprs.specs.BareExpr.{bare_expr}
use Rattle.cedar_exprs.specs.declared.expr.KindOf.TheVariants.{Unknown as UnknownOf, Var as VarOf}
use Rattle.cedar_bindings.specs.Names.{names_of, stands_for}
use Rattle.cedar_bindings.proofs.Nodes.{bare_at, of_copied}
use Rattle.cedar_bindings.proofs.names.named.Goals as goal

pub returns-in-Var : goal.returns-in-Var
returns-in-Var g c =
    let names = c.args.names.now in
    of_copied bare_expr c.get.result
    ∙ ap (option_map bare_expr) c.get.ensures.value
    ∙ ap (λ s. option_map bare_expr (get_by (λ k. bytes_eq s (rc_str_bytes k)) names))
    c.variable_name.ensures
    ∙ sym (ap (stands_for (names_of names))
    (bare_at c.args.node.now (VarOf c.in-Var.var) (sym c.expr_kind.ensures ∙ c.in-Var.is)))

pub returns-in-Unknown : goal.returns-in-Unknown
returns-in-Unknown g c =
    let names = c.args.names.now in
    of_copied bare_expr c.get-in-Unknown.result
    ∙ ap (option_map bare_expr) c.get-in-Unknown.ensures.value
    ∙ ap (λ s. option_map bare_expr (get_by (λ k. bytes_eq s (rc_str_bytes k)) names))
    c.as_str.ensures.value
    ∙ sym (ap (stands_for (names_of names))
    (bare_at c.args.node.now (UnknownOf c.in-Unknown.unknown)
    (sym c.expr_kind.ensures ∙ c.in-Unknown.is)))
