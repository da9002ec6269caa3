use Rattle.std.proofs.Common.{ap, ◌∙◌}
use Rattle.cedar_names.specs.PlainNames.{bare_name}
use Rattle.cedar_builders.specs.Restricted.{is_restricted}
use Rattle.cedar_exprs.proofs.RestrictedCalls.{call_tree, restricted_call}
use Rattle.cedar_exprs.proofs.restricted_expr.RestrictedExpr.call_extension_fn.Goals as goal

pub invariant_of-result : goal.invariant_of-result
invariant_of-result c = record {
  restricted =
      let n = bare_name c.args.fn_name in
      let rs = c.args.args.items in
      ap is_restricted (c.in_ok-expr.ensures.tree ∙ call_tree n rs c.in_ok-exprs.exprs.items c.in_ok-exprs.ensures) ∙ restricted_call n rs;
}

pub returns : goal.returns
returns c = record {
  tree =
      c.in_ok-expr.ensures.tree
      ∙ call_tree (bare_name c.args.fn_name) c.args.args.items c.in_ok-exprs.exprs.items c.in_ok-exprs.ensures;
  place = c.in_ok-expr.ensures.place;
  over = c.in_ok-expr.ensures.over ∙ c.in_ok-exprs.ensures;
}
