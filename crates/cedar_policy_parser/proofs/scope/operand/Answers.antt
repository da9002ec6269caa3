use Rattle.std.proofs.Common.{◌≡◌, ◌∙◌, Some, sym, ap, rules}
use Rattle.std.specs.Global.{Global}
use Rattle.std.specs.Option.{option_map}
use Rattle.std.specs.declared.rc.Rc.{Rc}
use Rattle.std.proofs.lemmas.Option.{same_Some}
use denote.Enum.Bare.{same_false}
use Rattle.cedar_names.specs.contracts.slot.SlotId.{the_type}
use Rattle.cedar_terms.specs.Entities.{BareEntityUID, bare_entity_uid}
use Rattle.cedar_terms.specs.declared.entity.EntityUID.{EntityUID}
use Rattle.cedar_exprs.specs.BareExpr.{bare_expr}
use Rattle.cedar_parser.proofs.Operators.{none_some}
use Rattle.semantics_policies.specs.Conditions.{operand_tree}
use Rattle.cedar_policies.specs.Policies.{bare_operand}
use Rattle.cedar_policy_parser.specs.Scopes.{entity_of}
use Rattle.cedar_policy_parser.proofs.EntityTrees.{none_found, operand_entity, operand_slot}
use Rattle.cedar_policy_parser.proofs.Firsts.{no_memory}
use Rattle.cedar_policy_parser.proofs.scope.operand.Goals as goal

pub returns-in_err-expr-clause-complete : goal.returns-in_err-expr-clause-complete
returns-in_err-expr-clause-complete c o rest h =
    let e = c.in_err-expr.field-0.0 in
    no_memory bare_operand o rest c.expression.new.tokens c.from_residual.result e (search rules)
    (c.in_err-expr.ensures.complete (operand_tree c.args.slot o) rest h)

pub returns-in-Some-clause-complete : goal.returns-in-Some-clause-complete
returns-in-Some-clause-complete c o rest h =
    let uid : Rc EntityUID Global → BareEntityUID = λ v. bare_entity_uid v.value in
    let e = bare_expr c.in_ok-expr.expr in
    let g = c.in_ok-expr.ensures.complete (operand_tree c.args.slot o) rest h in
    let found : Some (uid c.in-Some.uid) ≡ entity_of e = ap (option_map uid) (sym c.in-Some.is) ∙ c.in_ok-uid.ensures in
    (operand_entity c.args.slot o (uid c.in-Some.uid) e g.0 found, g.1)

pub returns-in-Some-slot_in-clause-complete : goal.returns-in-Some-slot_in-clause-complete
returns-in-Some-slot_in-clause-complete c o rest h =
    let uid : Rc EntityUID Global → BareEntityUID = λ v. bare_entity_uid v.value in
    let e = bare_expr c.in_ok-expr.expr in
    let g = c.in_ok-expr.ensures.complete (operand_tree c.args.slot o) rest h in
    let none = none_found uid c.in_ok-uid.field-0 e c.in_default.not-Some c.in_ok-uid.ensures in
    let s = operand_slot c.args.slot o e g.0 none in
    (s.1, g.1)

pub returns-in-Some-2-clause-complete : goal.returns-in-Some-2-clause-complete
returns-in-Some-2-clause-complete c o rest h =
    let uid : Rc EntityUID Global → BareEntityUID = λ v. bare_entity_uid v.value in
    let e = bare_expr c.in_ok-expr.expr in
    let g = c.in_ok-expr.ensures.complete (operand_tree c.args.slot o) rest h in
    let none = none_found uid c.in_ok-uid.field-0 e c.in_default.not-Some c.in_ok-uid.ensures in
    let s = operand_slot c.args.slot o e g.0 none in
    let found = c.in-Some-slot_in.found in
    let same : found ≡ c.args.slot = same_Some found c.args.slot (c.in-Some-slot_in.ensures ∙ s.0) in
    absurd (same_false the_type _ _ (sym c.if-eq.ensures) same)

pub returns-clause-complete : goal.returns-clause-complete
returns-clause-complete c o rest h =
    let uid : Rc EntityUID Global → BareEntityUID = λ v. bare_entity_uid v.value in
    let e = bare_expr c.in_ok-expr.expr in
    let g = c.in_ok-expr.ensures.complete (operand_tree c.args.slot o) rest h in
    let none = none_found uid c.in_ok-uid.field-0 e c.in_default.not-Some c.in_ok-uid.ensures in
    let s = operand_slot c.args.slot o e g.0 none in
    absurd (none_some (c.in-None.ensures ∙ s.0))
