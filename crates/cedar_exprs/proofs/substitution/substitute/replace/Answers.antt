use Rattle.std.proofs.Common.{◌≡◌, Some, ap, sym, subst, rules}
use Rattle.std.specs.Rc.{rc_str_bytes}
use Rattle.cedar_terms.specs.Unknowns.{bare_annotation}
use Rattle.cedar_builders.specs.TypeClash.{refused_binding}
use Rattle.cedar_exprs.specs.RestrictedExprs.{env_of}
use Rattle.cedar_exprs.specs.Refusals.{Refuses}
use Rattle.cedar_exprs.proofs.substitution.substitute.replace.Goals as goal

pub returns-in_err-check-in-Some-clause-refused : goal.returns-in_err-check-in-Some-clause-refused
returns-in_err-check-in-Some-clause-refused g c =
    let env = env_of g.V.SubstituteValue.bare_type_of g.V.SubstituteValue.bare_expr_of c.args.values.now in
    let value = c.in-Some.value.now in
    let annotation = bare_annotation c.args.unknown.now.type_annotation in
    let binding : env (rc_str_bytes c.args.unknown.now.name) ≡ Some (g.V.SubstituteValue.bare_type_of value, g.V.SubstituteValue.bare_expr_of value) = search rules in
    let refused : Refuses g.S.SubstitutionFunction.types_of (g.S.SubstitutionFunction.refuses annotation (g.V.SubstituteValue.bare_type_of value)) c.from_residual.result = search rules in
    subst (λ found. Refuses g.S.SubstitutionFunction.types_of found c.from_residual.result) (sym (ap (refused_binding g.S.SubstitutionFunction.refuses annotation) binding)) refused
