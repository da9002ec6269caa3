use Rattle.std.proofs.Common.{length, refl, ap, ◌∙◌, sym, arith}
use Rattle.cedar_names.specs.PlainNames.{bare_name}
use Rattle.cedar_terms.specs.Literals.{bare_literal}
use Rattle.cedar_terms.specs.Unknowns.{bare_unknown}
use Rattle.cedar_builders.specs.BareExpr.{Lit, Var, Slot, ExtensionFunctionApp, Set, Record}
use Rattle.cedar_builders.specs.Environment.{own}
use Rattle.cedar_builders.specs.NodeByNode.{IsBuiltOf}
use Rattle.cedar_builders.specs.Walks.{children}
use Rattle.cedar_exprs.specs.BareExpr.{bare_exprs, bare_fields, unknown_tree}
use Rattle.cedar_exprs.specs.PostOrder.{IsPut}
use Rattle.cedar_exprs.specs.declared.expr.KindOf.TheVariants.{Lit as LitOf, Var as VarOf, Slot as SlotOf, Unknown as UnknownOf}
use Rattle.cedar_exprs.proofs.ChildrenOf.{bare_at_call, bare_at_set, bare_at_map, members-length, values-length, at_tree}
use Rattle.cedar_exprs.proofs.Records.{bare_at}
use Rattle.cedar_exprs.proofs.building.build.BuildingPostOrder.make.Goals as goal

pub build_call-requires-clause-room : goal.build_call-requires-clause-room
build_call-requires-clause-room g c =
    let v = c.deref.result.now in
    let k = c.in-ExtensionFunctionApp in
    let kids = ap (λ b. length (children b)) (bare_at_call c.args.node.now k.fn_name k.args v (sym c.expr_kind.ensures ∙ k.is) c.deref.ensures) ∙ members-length v.items in
    omega (arith, kids, c.len.ensures, v.ok.0, c.requires)

pub build_set-requires-clause-room : goal.build_set-requires-clause-room
build_set-requires-clause-room g c =
    let v = c.deref-in-Set.result.now in
    let kids = ap (λ b. length (children b)) (bare_at_set c.args.node.now c.in-Set.members v (sym c.expr_kind.ensures ∙ c.in-Set.is) c.deref-in-Set.ensures) ∙ members-length v.items in
    omega (arith, kids, c.len-in-Set.ensures, v.ok.0, c.requires)

pub build_record-requires-clause-room : goal.build_record-requires-clause-room
build_record-requires-clause-room g c =
    let m = c.deref-in-Record.result.now in
    let kids = ap (λ b. length (children b)) (bare_at_map c.args.node.now c.in-Record.pairs m (sym c.expr_kind.ensures ∙ c.in-Record.is) c.deref-in-Record.ensures) ∙ values-length m.entries in
    omega (arith, kids, c.requires)

pub returns-in-ExtensionFunctionApp : goal.returns-in-ExtensionFunctionApp
returns-in-ExtensionFunctionApp g c =
    let B = g.B.ExprBuilder in
    let v = c.deref.result.now in
    let k = c.in-ExtensionFunctionApp in
    at_tree (λ b n. IsPut B.meaning_of B.fault_of (IsBuiltOf B.ops (own B.ops) b) n c.args.done.now.items c.build_call.new.done.items c.build_call.result)
    c.args.node.now (ExtensionFunctionApp (bare_name k.fn_name) (bare_exprs v.items)) c.len.result (bare_at_call c.args.node.now k.fn_name k.args v (sym c.expr_kind.ensures ∙ k.is) c.deref.ensures)
    (omega (arith, members-length v.items, c.len.ensures, v.ok.0)) c.build_call.ensures

pub returns-in-Set : goal.returns-in-Set
returns-in-Set g c =
    let B = g.B.ExprBuilder in
    let v = c.deref-in-Set.result.now in
    at_tree (λ b n. IsPut B.meaning_of B.fault_of (IsBuiltOf B.ops (own B.ops) b) n c.args.done.now.items c.build_set.new.done.items c.build_set.result)
    c.args.node.now (Set (bare_exprs v.items)) c.len-in-Set.result (bare_at_set c.args.node.now c.in-Set.members v (sym c.expr_kind.ensures ∙ c.in-Set.is) c.deref-in-Set.ensures)
    (omega (arith, members-length v.items, c.len-in-Set.ensures, v.ok.0)) c.build_set.ensures

pub returns-in-Record : goal.returns-in-Record
returns-in-Record g c =
    let B = g.B.ExprBuilder in
    let m = c.deref-in-Record.result.now in
    at_tree (λ b n. IsPut B.meaning_of B.fault_of (IsBuiltOf B.ops (own B.ops) b) n c.args.done.now.items c.build_record.new.done.items c.build_record.result)
    c.args.node.now (Record (bare_fields m.entries)) (length m.entries) (bare_at_map c.args.node.now c.in-Record.pairs m (sym c.expr_kind.ensures ∙ c.in-Record.is) c.deref-in-Record.ensures)
    (sym (values-length m.entries)) c.build_record.ensures

pub returns-in-Lit : goal.returns-in-Lit
returns-in-Lit g c =
    let B = g.B.ExprBuilder in
    let k = c.in-Lit in
    at_tree (λ b n. IsPut B.meaning_of B.fault_of (IsBuiltOf B.ops (own B.ops) b) n c.args.done.now.items c.build_literal.new.done.items c.build_literal.result)
    c.args.node.now (Lit (bare_literal k.literal)) 0 (bare_at c.args.node.now (LitOf k.literal) (sym c.expr_kind.ensures ∙ k.is)) refl c.build_literal.ensures

pub returns-in-Var : goal.returns-in-Var
returns-in-Var g c =
    let B = g.B.ExprBuilder in
    let k = c.in-Var in
    at_tree (λ b n. IsPut B.meaning_of B.fault_of (IsBuiltOf B.ops (own B.ops) b) n c.args.done.now.items c.build_var.new.done.items c.build_var.result)
    c.args.node.now (Var k.var) 0 (bare_at c.args.node.now (VarOf k.var) (sym c.expr_kind.ensures ∙ k.is)) refl c.build_var.ensures

pub returns-in-Slot : goal.returns-in-Slot
returns-in-Slot g c =
    let B = g.B.ExprBuilder in
    let k = c.in-Slot in
    at_tree (λ b n. IsPut B.meaning_of B.fault_of (IsBuiltOf B.ops (own B.ops) b) n c.args.done.now.items c.build_slot.new.done.items c.build_slot.result)
    c.args.node.now (Slot k.slot) 0 (bare_at c.args.node.now (SlotOf k.slot) (sym c.expr_kind.ensures ∙ k.is)) refl c.build_slot.ensures

pub returns-in-Unknown : goal.returns-in-Unknown
returns-in-Unknown g c =
    let B = g.B.ExprBuilder in
    let k = c.in-Unknown in
    at_tree (λ b n. IsPut B.meaning_of B.fault_of (IsBuiltOf B.ops (own B.ops) b) n c.args.done.now.items c.build_unknown.new.done.items c.build_unknown.result)
    c.args.node.now (unknown_tree (bare_unknown k.unknown)) 0 (bare_at c.args.node.now (UnknownOf k.unknown) (sym c.expr_kind.ensures ∙ k.is)) refl c.build_unknown.ensures
