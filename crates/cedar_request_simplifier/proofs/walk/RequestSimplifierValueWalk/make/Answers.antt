use Rattle.std.proofs.Common.{refl, ◌∙◌, sym, arith}
use Rattle.cedar_builders.specs.Answers.{never}
use Rattle.cedar_builders.specs.Environment.{own}
use Rattle.cedar_builders.specs.NodeByNode.{IsBuiltOf}
use Rattle.cedar_exprs.specs.PostOrder.{IsPut}
use Rattle.cedar_exprs.specs.declared.expr.KindOf.TheVariants as Kind
use Rattle.semantics_request.specs.Residuals.{residual_ops}
use Rattle.cedar_request_evaluator.specs.Knowledge.{knowledge_of}
use Rattle.cedar_simplifier.specs.Simplified.{meaning_of}
use Rattle.cedar_request_evaluator.proofs.Trees.{at_kind, at_record, at_row, record_length, row_length}
use Rattle.cedar_request_simplifier.proofs.walk.RequestSimplifierValueWalk.make.Goals as goal

pub put_call-requires : goal.put_call-requires
put_call-requires g c =
    let k = c.in-ExtensionFunctionApp in
    let v = c.deref.result.now in
    let kids = row_length c.args.node.now (Kind.ExtensionFunctionApp k.fn_name k.args)
    (sym c.expr_kind.ensures ∙ k.is) k.args v c.deref.ensures refl in
    omega (arith, kids, c.len.ensures, v.ok.0, c.requires)

pub put_set-requires : goal.put_set-requires
put_set-requires g c =
    let v = c.deref-in-Set.result.now in
    let kids = row_length c.args.node.now (Kind.Set c.in-Set.members)
    (sym c.expr_kind.ensures ∙ c.in-Set.is) c.in-Set.members v c.deref-in-Set.ensures refl in
    omega (arith, kids, c.len-in-Set.ensures, v.ok.0, c.requires)

pub put_record-requires : goal.put_record-requires
put_record-requires g c =
    let kids = record_length c.args.node.now c.in-Record.pairs c.deref-in-Record.result.now
    (sym c.expr_kind.ensures ∙ c.in-Record.is) c.deref-in-Record.ensures in
    omega (arith, kids, c.requires)

pub returns-in-Lit : goal.returns-in-Lit
returns-in-Lit g c =
    let k = c.in-Lit in
    let B = residual_ops g.X.Ord.cmp g.X.PartialEq.eq g.X.ExtensionValue.canonical
    (knowledge_of g.S.EntityStore.bare_entities c.args.self.now.evaluator.now) in
    at_kind c.args.node.now (Kind.Lit k.literal) (sym c.expr_kind.ensures ∙ k.is)
    (λ b n. IsPut meaning_of never (IsBuiltOf B (own B) b) n
    c.args.done.now.items c.put_literal.new.done.items c.put_literal.result) _ refl
    c.put_literal.ensures

pub returns-in-Var : goal.returns-in-Var
returns-in-Var g c =
    let k = c.in-Var in
    let B = residual_ops g.X.Ord.cmp g.X.PartialEq.eq g.X.ExtensionValue.canonical
    (knowledge_of g.S.EntityStore.bare_entities c.args.self.now.evaluator.now) in
    at_kind c.args.node.now (Kind.Var k.var) (sym c.expr_kind.ensures ∙ k.is)
    (λ b n. IsPut meaning_of never (IsBuiltOf B (own B) b) n
    c.args.done.now.items c.put_variable.new.done.items c.put_variable.result) _ refl
    c.put_variable.ensures

pub returns-in-Slot : goal.returns-in-Slot
returns-in-Slot g c =
    let k = c.in-Slot in
    let B = residual_ops g.X.Ord.cmp g.X.PartialEq.eq g.X.ExtensionValue.canonical
    (knowledge_of g.S.EntityStore.bare_entities c.args.self.now.evaluator.now) in
    at_kind c.args.node.now (Kind.Slot k.slot) (sym c.expr_kind.ensures ∙ k.is)
    (λ b n. IsPut meaning_of never (IsBuiltOf B (own B) b) n
    c.args.done.now.items c.put_slot.new.done.items c.put_slot.result) _ refl
    c.put_slot.ensures

pub returns-in-Unknown : goal.returns-in-Unknown
returns-in-Unknown g c =
    let k = c.in-Unknown in
    let B = residual_ops g.X.Ord.cmp g.X.PartialEq.eq g.X.ExtensionValue.canonical
    (knowledge_of g.S.EntityStore.bare_entities c.args.self.now.evaluator.now) in
    at_kind c.args.node.now (Kind.Unknown k.unknown) (sym c.expr_kind.ensures ∙ k.is)
    (λ b n. IsPut meaning_of never (IsBuiltOf B (own B) b) n
    c.args.done.now.items c.put_unknown.new.done.items c.put_unknown.result) _ refl
    c.put_unknown.ensures

pub returns-in-If : goal.returns-in-If
returns-in-If g c =
    let k = c.in-If in
    let B = residual_ops g.X.Ord.cmp g.X.PartialEq.eq g.X.ExtensionValue.canonical
    (knowledge_of g.S.EntityStore.bare_entities c.args.self.now.evaluator.now) in
    at_kind c.args.node.now (Kind.If k.test_expr k.then_expr k.else_expr)
    (sym c.expr_kind.ensures ∙ k.is) (λ b n. IsPut meaning_of never (IsBuiltOf B (own B) b) n
    c.args.done.now.items c.put_if.new.done.items c.put_if.result) _ refl
    c.put_if.ensures

pub returns-in-And : goal.returns-in-And
returns-in-And g c =
    let k = c.in-And in
    let B = residual_ops g.X.Ord.cmp g.X.PartialEq.eq g.X.ExtensionValue.canonical
    (knowledge_of g.S.EntityStore.bare_entities c.args.self.now.evaluator.now) in
    at_kind c.args.node.now (Kind.And k.left k.right) (sym c.expr_kind.ensures ∙ k.is)
    (λ b n. IsPut meaning_of never (IsBuiltOf B (own B) b) n
    c.args.done.now.items c.put_and.new.done.items c.put_and.result) _ refl
    c.put_and.ensures

pub returns-in-Or : goal.returns-in-Or
returns-in-Or g c =
    let k = c.in-Or in
    let B = residual_ops g.X.Ord.cmp g.X.PartialEq.eq g.X.ExtensionValue.canonical
    (knowledge_of g.S.EntityStore.bare_entities c.args.self.now.evaluator.now) in
    at_kind c.args.node.now (Kind.Or k.left k.right) (sym c.expr_kind.ensures ∙ k.is)
    (λ b n. IsPut meaning_of never (IsBuiltOf B (own B) b) n
    c.args.done.now.items c.put_or.new.done.items c.put_or.result) _ refl
    c.put_or.ensures

pub returns-in-UnaryApp : goal.returns-in-UnaryApp
returns-in-UnaryApp g c =
    let k = c.in-UnaryApp in
    let B = residual_ops g.X.Ord.cmp g.X.PartialEq.eq g.X.ExtensionValue.canonical
    (knowledge_of g.S.EntityStore.bare_entities c.args.self.now.evaluator.now) in
    at_kind c.args.node.now (Kind.UnaryApp k.op k.arg) (sym c.expr_kind.ensures ∙ k.is)
    (λ b n. IsPut meaning_of never (IsBuiltOf B (own B) b) n
    c.args.done.now.items c.put_unary.new.done.items c.put_unary.result) _ refl
    c.put_unary.ensures

pub returns-in-BinaryApp : goal.returns-in-BinaryApp
returns-in-BinaryApp g c =
    let k = c.in-BinaryApp in
    let B = residual_ops g.X.Ord.cmp g.X.PartialEq.eq g.X.ExtensionValue.canonical
    (knowledge_of g.S.EntityStore.bare_entities c.args.self.now.evaluator.now) in
    at_kind c.args.node.now (Kind.BinaryApp k.op k.arg1 k.arg2) (sym c.expr_kind.ensures ∙ k.is)
    (λ b n. IsPut meaning_of never (IsBuiltOf B (own B) b) n
    c.args.done.now.items c.put_operator.new.done.items c.put_operator.result) _ refl
    c.put_operator.ensures

pub returns-in-GetAttr : goal.returns-in-GetAttr
returns-in-GetAttr g c =
    let k = c.in-GetAttr in
    let B = residual_ops g.X.Ord.cmp g.X.PartialEq.eq g.X.ExtensionValue.canonical
    (knowledge_of g.S.EntityStore.bare_entities c.args.self.now.evaluator.now) in
    at_kind c.args.node.now (Kind.GetAttr k.expr k.attr) (sym c.expr_kind.ensures ∙ k.is)
    (λ b n. IsPut meaning_of never (IsBuiltOf B (own B) b) n
    c.args.done.now.items c.put_attribute.new.done.items c.put_attribute.result) _ refl
    c.put_attribute.ensures

pub returns-in-HasAttr : goal.returns-in-HasAttr
returns-in-HasAttr g c =
    let k = c.in-HasAttr in
    let B = residual_ops g.X.Ord.cmp g.X.PartialEq.eq g.X.ExtensionValue.canonical
    (knowledge_of g.S.EntityStore.bare_entities c.args.self.now.evaluator.now) in
    at_kind c.args.node.now (Kind.HasAttr k.expr k.attrs) (sym c.expr_kind.ensures ∙ k.is)
    (λ b n. IsPut meaning_of never (IsBuiltOf B (own B) b) n
    c.args.done.now.items c.put_path.new.done.items c.put_path.result) _ refl
    c.put_path.ensures

pub returns-in-Like : goal.returns-in-Like
returns-in-Like g c =
    let k = c.in-Like in
    let B = residual_ops g.X.Ord.cmp g.X.PartialEq.eq g.X.ExtensionValue.canonical
    (knowledge_of g.S.EntityStore.bare_entities c.args.self.now.evaluator.now) in
    at_kind c.args.node.now (Kind.Like k.expr k.pattern) (sym c.expr_kind.ensures ∙ k.is)
    (λ b n. IsPut meaning_of never (IsBuiltOf B (own B) b) n
    c.args.done.now.items c.put_like.new.done.items c.put_like.result) _ refl
    c.put_like.ensures

pub returns-in-Is : goal.returns-in-Is
returns-in-Is g c =
    let k = c.in-Is in
    let B = residual_ops g.X.Ord.cmp g.X.PartialEq.eq g.X.ExtensionValue.canonical
    (knowledge_of g.S.EntityStore.bare_entities c.args.self.now.evaluator.now) in
    at_kind c.args.node.now (Kind.Is k.expr k.entity_type) (sym c.expr_kind.ensures ∙ k.is)
    (λ b n. IsPut meaning_of never (IsBuiltOf B (own B) b) n
    c.args.done.now.items c.put_is.new.done.items c.put_is.result) _ refl
    c.put_is.ensures

pub returns-in-ExtensionFunctionApp : goal.returns-in-ExtensionFunctionApp
returns-in-ExtensionFunctionApp g c =
    let v = c.deref.result.now in
    let k = c.in-ExtensionFunctionApp in
    let B = residual_ops g.X.Ord.cmp g.X.PartialEq.eq g.X.ExtensionValue.canonical
    (knowledge_of g.S.EntityStore.bare_entities c.args.self.now.evaluator.now) in
    at_row c.args.node.now (Kind.ExtensionFunctionApp k.fn_name k.args)
    (sym c.expr_kind.ensures ∙ k.is) k.args v c.deref.ensures refl
    (λ b n. IsPut meaning_of never (IsBuiltOf B (own B) b) n
    c.args.done.now.items c.put_call.new.done.items c.put_call.result)
    c.len.result (omega (arith, c.len.ensures, v.ok.0)) c.put_call.ensures

pub returns-in-Set : goal.returns-in-Set
returns-in-Set g c =
    let v = c.deref-in-Set.result.now in
    let B = residual_ops g.X.Ord.cmp g.X.PartialEq.eq g.X.ExtensionValue.canonical
    (knowledge_of g.S.EntityStore.bare_entities c.args.self.now.evaluator.now) in
    at_row c.args.node.now (Kind.Set c.in-Set.members) (sym c.expr_kind.ensures ∙ c.in-Set.is)
    c.in-Set.members v c.deref-in-Set.ensures refl
    (λ b n. IsPut meaning_of never (IsBuiltOf B (own B) b) n
    c.args.done.now.items c.put_set.new.done.items c.put_set.result)
    c.len-in-Set.result (omega (arith, c.len-in-Set.ensures, v.ok.0)) c.put_set.ensures

pub returns-in-Record : goal.returns-in-Record
returns-in-Record g c =
    let B = residual_ops g.X.Ord.cmp g.X.PartialEq.eq g.X.ExtensionValue.canonical
    (knowledge_of g.S.EntityStore.bare_entities c.args.self.now.evaluator.now) in
    at_record c.args.node.now c.in-Record.pairs c.deref-in-Record.result.now
    (sym c.expr_kind.ensures ∙ c.in-Record.is) c.deref-in-Record.ensures
    (λ b n. IsPut meaning_of never (IsBuiltOf B (own B) b) n
    c.args.done.now.items c.put_record.new.done.items c.put_record.result)
    c.put_record.ensures
