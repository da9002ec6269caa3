use Rattle.std.proofs.Common.{Ok, map, ap, ◌∙◌, sym, arith}
use Rattle.cedar_names.specs.PlainNames.{bare_name}
use Rattle.cedar_builders.specs.BareExpr.{ExtensionFunctionApp, trees_of}
use Rattle.cedar_builders.specs.Rebuilding.{all_new_or}
use Rattle.cedar_exprs.specs.BareExpr.{bare_expr, bare_exprs}
use Rattle.cedar_exprs.specs.Substituting.{new_tree}
use Rattle.cedar_exprs.proofs.ChildrenOf.{members_of-trees_of, members-length}
use Rattle.cedar_exprs.proofs.substitution.substitute.substitute_call.Goals as goal

pub returns : goal.returns
returns g c =
    let v = c.args.args.now in
    let last = c.in_ok-take_many.field-0.items in
    let members = c.in_ok-args.ensures ∙ ap (λ bs. all_new_or bs (map (new_tree g.V.SubstituteValue.bare_expr_of) last)) (sym (members_of-trees_of (map bare_expr v.items))) in
    (last, c.in_ok-take_many.ensures.taken, omega (arith, c.in_ok-take_many.ensures.count, c.len.ensures, v.ok.0, members-length v.items), ap Ok (ap bare_expr c.in_ok-new.ensures.ok ∙ c.in_ok-call_extension_fn.ensures.tree ∙ ap (λ n. ExtensionFunctionApp n (bare_exprs c.in_ok-args.args.items)) c.in_ok-clone.ensures.name ∙ ap (λ ts. ExtensionFunctionApp (bare_name c.args.fn_name.now) (trees_of ts)) members))
