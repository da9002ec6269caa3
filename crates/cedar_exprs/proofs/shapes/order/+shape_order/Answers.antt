use Rattle.std.proofs.Common.{◌∙◌, sym, arith, nat_cmp}
use Rattle.cedar_exprs.proofs.ShapeWalks.{cmp_of_records, cmp_of_sets, cmp_of_calls, uneven, even, uneven_pairs, even_pairs, differ_here, same_so_far}
use Rattle.cedar_exprs.proofs.ShapeKinds.{unlike, no_lit, no_var, no_slot, no_unknown, no_if, no_and, no_or, no_unary, no_binary, no_call, no_get, no_has, no_like, no_set, no_record, no_is}
use Rattle.cedar_exprs.proofs.shapes.order.+shape_order.Goals as goal
use Rattle.cedar_exprs.proofs.shapes.order.+shape_order.Goals.{
  cmp_shape-in_default-via-in-Lit+in_default,
  cmp_shape-in_default-via-in-Var+in_default,
  cmp_shape-in_default-via-in-Slot+in_default,
  cmp_shape-in_default-via-in-Unknown+in_default,
  cmp_shape-in_default-via-in-If+in_default,
  cmp_shape-in_default-via-in-And+in_default,
  cmp_shape-in_default-via-in-Or+in_default,
  cmp_shape-in_default-via-in-UnaryApp+in_default,
  cmp_shape-in_default-via-in-BinaryApp+in_default,
  cmp_shape-in_default-via-in-ExtensionFunctionApp+in_default,
  cmp_shape-in_default-via-in-GetAttr+in_default,
  cmp_shape-in_default-via-in-HasAttr+in_default,
  cmp_shape-in_default-via-in-Like+in_default,
  cmp_shape-in_default-via-in-Set+in_default,
  cmp_shape-in_default-via-in-Record+in_default,
  cmp_shape-in_default-via-in-Is+in_default,
}

pub cmp_shape-returns-in-Record-Record : goal.cmp_shape-returns-in-Record-Record
cmp_shape-returns-in-Record-Record g t c =
    cmp_of_records c.args.a.now c.args.b.now c.in-Record-Record.ps c.in-Record-Record.qs _ _ _ c.in-Record-Record.is-0 c.in-Record-Record.is-1 c.deref-in-Record-Record.ensures c.deref-in-Record-Record-2.ensures c.cmp_pairs.ensures

pub cmp_shape-returns-in-Set-Set : goal.cmp_shape-returns-in-Set-Set
cmp_shape-returns-in-Set-Set g t c =
    cmp_of_sets c.args.a.now c.args.b.now c.in-Set-Set.es c.in-Set-Set.fs _ _ _ _ _ c.in-Set-Set.is-0 c.in-Set-Set.is-1 c.deref-in-Set-Set.ensures c.deref-in-Set-Set-3.ensures c.deref-in-Set-Set-2.ensures.value c.deref-in-Set-Set-4.ensures.value c.cmp_members-in-Set-Set.ensures

pub cmp_shape-returns-in-Equal-cmp : goal.cmp_shape-returns-in-Equal-cmp
cmp_shape-returns-in-Equal-cmp g t c =
    cmp_of_calls c.args.a.now c.args.b.now c.in-ExtensionFunctionApp-ExtensionFunctionApp.args c.in-ExtensionFunctionApp-ExtensionFunctionApp.other_args _ _ _ _ _ c.in-ExtensionFunctionApp-ExtensionFunctionApp.fn_name c.in-ExtensionFunctionApp-ExtensionFunctionApp.other c.in-ExtensionFunctionApp-ExtensionFunctionApp.is-0 c.in-ExtensionFunctionApp-ExtensionFunctionApp.is-1 (sym c.cmp-in-ExtensionFunctionApp-ExtensionFunctionApp.ensures ∙ c.in-Equal-cmp.is) c.deref-in-Equal-cmp.ensures c.deref-in-Equal-cmp-3.ensures c.deref-in-Equal-cmp-2.ensures.value c.deref-in-Equal-cmp-4.ensures.value c.cmp_members.ensures

pub cmp_shape-returns-in_default : goal.cmp_shape-returns-in_default
cmp_shape-returns-in_default g t c =
    elim c.in_default.branch [
      | cmp_shape-in_default-via-in-Lit+in_default w ↦ unlike c.args.a.now c.args.b.now _ _ w.in_default.is-0 (no_lit _ w.in_default.not-Lit-1) c.cmp_kinds.ensures
      | cmp_shape-in_default-via-in-Var+in_default w ↦ unlike c.args.a.now c.args.b.now _ _ w.in_default.is-0 (no_var _ w.in_default.not-Var-1) c.cmp_kinds.ensures
      | cmp_shape-in_default-via-in-Slot+in_default w ↦ unlike c.args.a.now c.args.b.now _ _ w.in_default.is-0 (no_slot _ w.in_default.not-Slot-1) c.cmp_kinds.ensures
      | cmp_shape-in_default-via-in-Unknown+in_default w ↦ unlike c.args.a.now c.args.b.now _ _ w.in_default.is-0 (no_unknown _ w.in_default.not-Unknown-1) c.cmp_kinds.ensures
      | cmp_shape-in_default-via-in-If+in_default w ↦ unlike c.args.a.now c.args.b.now _ _ w.in_default.is-0 (no_if _ w.in_default.not-If-1) c.cmp_kinds.ensures
      | cmp_shape-in_default-via-in-And+in_default w ↦ unlike c.args.a.now c.args.b.now _ _ w.in_default.is-0 (no_and _ w.in_default.not-And-1) c.cmp_kinds.ensures
      | cmp_shape-in_default-via-in-Or+in_default w ↦ unlike c.args.a.now c.args.b.now _ _ w.in_default.is-0 (no_or _ w.in_default.not-Or-1) c.cmp_kinds.ensures
      | cmp_shape-in_default-via-in-UnaryApp+in_default w ↦ unlike c.args.a.now c.args.b.now _ _ w.in_default.is-0 (no_unary _ w.in_default.not-UnaryApp-1) c.cmp_kinds.ensures
      | cmp_shape-in_default-via-in-BinaryApp+in_default w ↦ unlike c.args.a.now c.args.b.now _ _ w.in_default.is-0 (no_binary _ w.in_default.not-BinaryApp-1) c.cmp_kinds.ensures
      | cmp_shape-in_default-via-in-ExtensionFunctionApp+in_default w ↦ unlike c.args.a.now c.args.b.now _ _ w.in_default.is-0 (no_call _ w.in_default.not-ExtensionFunctionApp-1) c.cmp_kinds.ensures
      | cmp_shape-in_default-via-in-GetAttr+in_default w ↦ unlike c.args.a.now c.args.b.now _ _ w.in_default.is-0 (no_get _ w.in_default.not-GetAttr-1) c.cmp_kinds.ensures
      | cmp_shape-in_default-via-in-HasAttr+in_default w ↦ unlike c.args.a.now c.args.b.now _ _ w.in_default.is-0 (no_has _ w.in_default.not-HasAttr-1) c.cmp_kinds.ensures
      | cmp_shape-in_default-via-in-Like+in_default w ↦ unlike c.args.a.now c.args.b.now _ _ w.in_default.is-0 (no_like _ w.in_default.not-Like-1) c.cmp_kinds.ensures
      | cmp_shape-in_default-via-in-Set+in_default w ↦ unlike c.args.a.now c.args.b.now _ _ w.in_default.is-0 (no_set _ w.in_default.not-Set-1) c.cmp_kinds.ensures
      | cmp_shape-in_default-via-in-Record+in_default w ↦ unlike c.args.a.now c.args.b.now _ _ w.in_default.is-0 (no_record _ w.in_default.not-Record-1) c.cmp_kinds.ensures
      | cmp_shape-in_default-via-in-Is+in_default w ↦ unlike c.args.a.now c.args.b.now _ _ w.in_default.is-0 (no_is _ w.in_default.not-Is-1) c.cmp_kinds.ensures
    ]

pub cmp_members-returns-then-is_ne : goal.cmp_members-returns-then-is_ne
cmp_members-returns-then-is_ne g t c = uneven c.args.es.now c.args.fs.now c.cmp-counts.result c.cmp-counts.ensures c.if-is_ne.ensures

pub cmp_members-loop-e-init : goal.cmp_members-loop-e-init
cmp_members-loop-e-init g t c = rw c.iter-rest.ensures.rest (even c.args.es.now c.args.fs.now c.cmp-counts.result c.cmp-counts.ensures c.if-is_ne.ensures)

pub cmp_members-returns-then-is_ne-2 : goal.cmp_members-returns-then-is_ne-2
cmp_members-returns-then-is_ne-2 g t c =
    differ_here c.args.es.now c.loop-e.e-index c.e-item.result c.in-Some.f.now _ _ _ _ (omega arith) c.e-item.is c.in-Some.ensures.steps c.loop-e.invariant c.cmp_shape-first.ensures c.if-is_ne-2.ensures

pub cmp_members-loop-e-preserved : goal.cmp_members-loop-e-preserved
cmp_members-loop-e-preserved g t c =
    same_so_far c.args.es.now c.loop-e.e-index c.e-item.result c.in-Some.f.now _ _ _ _ (omega arith) c.e-item.is c.in-Some.ensures.steps c.loop-e.invariant c.cmp_shape-first.ensures c.if-is_ne-2.ensures

pub cmp_pairs-returns-then-is_ne : goal.cmp_pairs-returns-then-is_ne
cmp_pairs-returns-then-is_ne g t c = uneven_pairs c.args.ps.now.entries c.args.qs.now.entries c.cmp-counts.result (c.cmp-counts.ensures ∙ λ i. nat_cmp (c.len.ensures.len i) (c.len-2.ensures.len i)) c.if-is_ne.ensures

pub cmp_pairs-loop-key-init : goal.cmp_pairs-loop-key-init
cmp_pairs-loop-key-init g t c =
    let is = even_pairs c.args.ps.now.entries c.args.qs.now.entries c.cmp-counts.result (c.cmp-counts.ensures ∙ λ i. nat_cmp (c.len.ensures.len i) (c.len-2.ensures.len i)) c.if-is_ne.ensures in
    (tt, tt, cc (is, c.iter-rest.ensures.rest, c.iter-key-items.ensures.rest, c.into_iter-key-iterator.ensures.into_iter_gives))
