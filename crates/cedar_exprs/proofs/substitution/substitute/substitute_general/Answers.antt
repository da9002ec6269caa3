use Rattle.std.proofs.Common.{◌≡◌, Err, ◌∙◌, rules}
use Rattle.cedar_builders.specs.Rebuilding.{renewed_is}
use Rattle.cedar_exprs.specs.BareExpr.{bare_expr}
use Rattle.cedar_exprs.specs.Substituting.{new_tree}
use Rattle.cedar_exprs.specs.RestrictedExprs.{env_of}
use Rattle.cedar_exprs.proofs.Refused.{passed_on}
use Rattle.cedar_exprs.proofs.substitution.substitute.substitute_general.Goals as goal

pub returns-in_err-new-clause-refused : goal.returns-in_err-new-clause-refused
returns-in_err-new-clause-refused g c =
    let env = env_of g.V.SubstituteValue.bare_type_of g.V.SubstituteValue.bare_expr_of c.args.values.now in
    let same : c.from_residual.result ≡ Err c.in_err-new.field-0.0 = search rules in
    passed_on g.S.SubstitutionFunction.refuses env (bare_expr c.args.expr.now) (new_tree g.V.SubstituteValue.bare_expr_of) g.S.SubstitutionFunction.types_of c.in_err-new.field-0.0 _ same c.in_err-new.ensures

pub returns-clause-tree : goal.returns-clause-tree
returns-clause-tree g c =
    let env = env_of g.V.SubstituteValue.bare_type_of g.V.SubstituteValue.bare_expr_of c.args.values.now in
    c.in_ok-new_or_copy.ensures ∙ (renewed_is g.S.SubstitutionFunction.refuses env (bare_expr c.args.expr.now) _ c.in_ok-new.ensures).1

pub returns-clause-refused : goal.returns-clause-refused
returns-clause-refused g c =
    let env = env_of g.V.SubstituteValue.bare_type_of g.V.SubstituteValue.bare_expr_of c.args.values.now in
    (renewed_is g.S.SubstitutionFunction.refuses env (bare_expr c.args.expr.now) _ c.in_ok-new.ensures).0
