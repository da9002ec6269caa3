use Rattle.std.proofs.Common.{Some, Ok, [], length, map, refl, ap, ◌∙◌, sym, subst, arith, append-nil}
use Rattle.cedar_names.specs.PlainNames.{bare_name}
use Rattle.cedar_terms.specs.Entities.{bare_entity_type}
use Rattle.cedar_terms.specs.Unknowns.{bare_unknown}
use Rattle.cedar_builders.specs.BareExpr.{ExtensionFunctionApp, Set, Record, Is}
use Rattle.cedar_builders.specs.Rebuilding.{IsRenewedOf}
use Rattle.cedar_builders.specs.Walks.{members_of, values_of, children}
use Rattle.cedar_exprs.specs.BareExpr.{bare_expr, bare_exprs, bare_fields, unknown_tree}
use Rattle.cedar_exprs.specs.PostOrder.{Takes}
use Rattle.cedar_exprs.specs.Substituting.{new_tree}
use Rattle.cedar_exprs.specs.RestrictedExprs.{env_of}
use Rattle.cedar_exprs.proofs.ChildrenOf.{bare_at_unknown, bare_at_call, bare_at_set, bare_at_map, bare_at_is, members-length, values-length, at_tree}
use Rattle.cedar_exprs.proofs.Refused.{none_refused}
use Rattle.cedar_exprs.proofs.substitution.substitute.Substitution.substitute_node.Goals as goal

pub substitute_call-requires : goal.substitute_call-requires
substitute_call-requires g c =
    let v = c.deref.result.now in
    let k = c.in-ExtensionFunctionApp in
    let kids = ap (λ b. length (children b)) (bare_at_call c.args.node.now k.fn_name k.args v (sym c.expr_kind.ensures ∙ k.is) c.deref.ensures) ∙ members-length v.items in
    omega (arith, kids, c.requires)

pub substitute_set-requires : goal.substitute_set-requires
substitute_set-requires g c =
    let v = c.deref-in-Set.result.now in
    let kids = ap (λ b. length (children b)) (bare_at_set c.args.node.now c.in-Set.members v (sym c.expr_kind.ensures ∙ c.in-Set.is) c.deref-in-Set.ensures) ∙ members-length v.items in
    omega (arith, kids, c.requires)

pub substitute_record-requires : goal.substitute_record-requires
substitute_record-requires g c =
    let m = c.deref-in-Record.result.now in
    let kids = ap (λ b. length (children b)) (bare_at_map c.args.node.now c.in-Record.pairs m (sym c.expr_kind.ensures ∙ c.in-Record.is) c.deref-in-Record.ensures) ∙ values-length m.entries in
    omega (arith, kids, c.requires)

pub returns-in_ok-replace-in-Unknown : goal.returns-in_ok-replace-in-Unknown
returns-in_ok-replace-in-Unknown g c =
    let env = env_of g.V.SubstituteValue.bare_type_of g.V.SubstituteValue.bare_expr_of c.args.self.now.values.now in
    let unknown = unknown_tree (bare_unknown c.in-Unknown.unknown) in
    let r = c.in_ok-replace-in-Unknown in
    at_tree (λ b n. Takes n (λ last. IsRenewedOf g.S.SubstitutionFunction.refuses env b (map (new_tree g.V.SubstituteValue.bare_expr_of) last) (Ok (new_tree g.V.SubstituteValue.bare_expr_of r.field-0))) c.args.done.now.items c.args.done.now.items)
    c.args.node.now unknown 0 (bare_at_unknown c.args.node.now c.in-Unknown.unknown (sym c.expr_kind.ensures ∙ c.in-Unknown.is)) refl
    ([], sym (append-nil c.args.done.now.items), refl, subst (λ new. IsRenewedOf g.S.SubstitutionFunction.refuses env unknown [] (Ok new)) (sym r.ensures.tree) (none_refused _ _ _ r.ensures.refused refl))

pub returns-in_ok-substitute_call-in-ExtensionFunctionApp : goal.returns-in_ok-substitute_call-in-ExtensionFunctionApp
returns-in_ok-substitute_call-in-ExtensionFunctionApp g c =
    let env = env_of g.V.SubstituteValue.bare_type_of g.V.SubstituteValue.bare_expr_of c.args.self.now.values.now in
    let v = c.deref.result.now in
    let k = c.in-ExtensionFunctionApp in
    at_tree (λ b n. Takes n (λ last. IsRenewedOf g.S.SubstitutionFunction.refuses env b (map (new_tree g.V.SubstituteValue.bare_expr_of) last) (Ok (Some (bare_expr c.in_ok-substitute_call-in-ExtensionFunctionApp.field-0.value)))) c.args.done.now.items c.substitute_call.new.done.items)
    c.args.node.now (ExtensionFunctionApp (bare_name k.fn_name) (bare_exprs v.items)) (length (members_of (bare_exprs v.items))) (bare_at_call c.args.node.now k.fn_name k.args v (sym c.expr_kind.ensures ∙ k.is) c.deref.ensures) refl c.in_ok-substitute_call-in-ExtensionFunctionApp.ensures

pub returns-in_ok-substitute_set-in-Set : goal.returns-in_ok-substitute_set-in-Set
returns-in_ok-substitute_set-in-Set g c =
    let env = env_of g.V.SubstituteValue.bare_type_of g.V.SubstituteValue.bare_expr_of c.args.self.now.values.now in
    let v = c.deref-in-Set.result.now in
    at_tree (λ b n. Takes n (λ last. IsRenewedOf g.S.SubstitutionFunction.refuses env b (map (new_tree g.V.SubstituteValue.bare_expr_of) last) (Ok (Some (bare_expr c.in_ok-substitute_set-in-Set.field-0.value)))) c.args.done.now.items c.substitute_set.new.done.items)
    c.args.node.now (Set (bare_exprs v.items)) (length (members_of (bare_exprs v.items))) (bare_at_set c.args.node.now c.in-Set.members v (sym c.expr_kind.ensures ∙ c.in-Set.is) c.deref-in-Set.ensures) refl c.in_ok-substitute_set-in-Set.ensures

pub returns-in_ok-substitute_record-in-Record : goal.returns-in_ok-substitute_record-in-Record
returns-in_ok-substitute_record-in-Record g c =
    let env = env_of g.V.SubstituteValue.bare_type_of g.V.SubstituteValue.bare_expr_of c.args.self.now.values.now in
    let m = c.deref-in-Record.result.now in
    at_tree (λ b n. Takes n (λ last. IsRenewedOf g.S.SubstitutionFunction.refuses env b (map (new_tree g.V.SubstituteValue.bare_expr_of) last) (Ok (Some (bare_expr c.in_ok-substitute_record-in-Record.field-0.value)))) c.args.done.now.items c.substitute_record.new.done.items)
    c.args.node.now (Record (bare_fields m.entries)) (length (values_of (bare_fields m.entries))) (bare_at_map c.args.node.now c.in-Record.pairs m (sym c.expr_kind.ensures ∙ c.in-Record.is) c.deref-in-Record.ensures) refl c.in_ok-substitute_record-in-Record.ensures

pub returns-in_ok-substitute_is-in-Is : goal.returns-in_ok-substitute_is-in-Is
returns-in_ok-substitute_is-in-Is g c =
    let env = env_of g.V.SubstituteValue.bare_type_of g.V.SubstituteValue.bare_expr_of c.args.self.now.values.now in
    let k = c.in-Is in
    at_tree (λ b n. Takes n (λ last. IsRenewedOf g.S.SubstitutionFunction.refuses env b (map (new_tree g.V.SubstituteValue.bare_expr_of) last) (Ok (Some (bare_expr c.in_ok-substitute_is-in-Is.field-0.value)))) c.args.done.now.items c.substitute_is.new.done.items)
    c.args.node.now (Is (bare_expr k.expr.value) (bare_entity_type k.entity_type)) 1 (bare_at_is c.args.node.now k.expr k.entity_type (sym c.expr_kind.ensures ∙ k.is)) refl c.in_ok-substitute_is-in-Is.ensures
