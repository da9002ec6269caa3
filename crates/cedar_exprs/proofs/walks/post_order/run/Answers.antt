use Rattle.std.proofs.Common.{◌≡◌, Err, arith, length, map, sym, ap, ◌∙◌, subst, rules}
use Rattle.std.proofs.lemmas.List.{map-append}
use Rattle.cedar_builders.specs.NodeByNode.{gathered}
use Rattle.cedar_builders.specs.Walks.{children}
use Rattle.cedar_exprs.specs.BareExpr.{bare_expr}
use Rattle.cedar_exprs.specs.PostOrder.{bare_tasks}
use Rattle.cedar_exprs.proofs.Running.{Fits, begun_answer, begun_ends, begun_fits, fewer_begun, row_children, fewer_steps, fewer_by_one, leaf_leaves, visit_fits, make_room, make_fits, make_ends, leaf_fits, leaf_ends, refusal_ends, snoc_tasks, snoc_then, below}
use Rattle.cedar_exprs.proofs.walks.post_order.run.Goals as goal

pub down-smaller-in-Continue-branch-5 : goal.down-smaller-in-Continue-branch-5
down-smaller-in-Continue-branch-5 g c = leaf_leaves _ _ (bare_expr c.in-Visit.node.now) (snoc_tasks _ _ _ _ c.in-Some.ensures.items c.in-Visit.is)

pub down-preserved-in-Continue-branch-5 : goal.down-preserved-in-Continue-branch-5
down-preserved-in-Continue-branch-5 g c =
    let was = snoc_tasks _ _ _ _ c.in-Some.ensures.items c.in-Visit.is in
    let made = c.in_ok-make-in-Visit.ensures in
    leaf_fits (g.W.PostOrder.answer c.args.walk.now) (bare_expr c.args.root.now) _ _ (bare_expr c.in-Visit.node.now) g.W.PostOrder.meaning_of c.down.done.items was c.down.invariant (c.is_leaf-in-Visit.ensures.childless c.if-is_leaf-2.true)
    (g.met.W.PostOrder.by_nodes c.args.walk.now) made.1 made.0 _ made.3 made.2

pub down-smaller-in-Continue-branch-7 : goal.down-smaller-in-Continue-branch-7
down-smaller-in-Continue-branch-7 g c =
    let was = snoc_tasks _ _ _ _ c.in-Some.ensures.items c.in-Visit.is in
    let begun = c.in_ok-begin_row-in-Some-row_of.ensures in
    fewer_begun _ _ _ (bare_expr c.in-Visit.node.now) begun.0 begun.1 was (row_children c.in-Visit.node.now _ c.in-Some-row_of.ensures ∙ begun.3) (snoc_then _ _ _ _ _ c.in_ok-push-in-Visit.ensures.items begun.6)

pub down-preserved-in-Continue-branch-7 : goal.down-preserved-in-Continue-branch-7
down-preserved-in-Continue-branch-7 g c =
    let W = g.W.PostOrder in
    let was = snoc_tasks _ _ _ _ c.in-Some.ensures.items c.in-Visit.is in
    let begun = c.in_ok-begin_row-in-Some-row_of.ensures in
    let now = begun_fits (W.answer c.args.walk.now) (bare_expr c.args.root.now) _ _ (bare_expr c.in-Visit.node.now) begun.0 begun.1 _ _ _ ((g.met.W.PostOrder.by_nodes c.args.walk.now).strict (bare_expr c.in-Visit.node.now)) was
    (row_children c.in-Visit.node.now _ c.in-Some-row_of.ensures ∙ begun.3) begun.4 (snoc_then _ _ _ _ _ c.in_ok-push-in-Visit.ensures.items begun.6) c.down.invariant in
    subst (Fits (W.answer c.args.walk.now) (bare_expr c.args.root.now) _) (sym (map-append W.meaning_of c.down.done.items begun.2) ∙ sym (ap (map W.meaning_of) begun.5)) now

pub returns-in_err-begin_row-in-Some-row_of : goal.returns-in_err-begin_row-in-Some-row_of
returns-in_err-begin_row-in-Some-row_of g c =
    let W = g.W.PostOrder in
    let e = bare_expr c.in-Visit.node.now in
    let root = bare_expr c.args.root.now in
    let was = snoc_tasks _ _ _ _ c.in-Some.ensures.items c.in-Visit.is in
    let same : c.from_residual-in_err-begin_row-in-Some-row_of.result ≡ Err c.in_err-begin_row-in-Some-row_of.field-0.0 = search rules in
    begun_answer (W.answer c.args.walk.now) root W.meaning_of W.fault_of _ (bare_tasks c.push-else-is_leaf-2.new.self.items) (bare_tasks c.begin_row.new.tasks.items) c.down.done.items c.begin_row.new.done.items c.in_err-begin_row-in-Some-row_of.field-0.0 _
    (λ x given. begun_ends (W.answer c.args.walk.now) root _ _ e x _ ((g.met.W.PostOrder.by_nodes c.args.walk.now).strict e) was (ap (gathered (W.answer c.args.walk.now)) (row_children c.in-Visit.node.now _ c.in-Some-row_of.ensures) ∙ given) c.down.invariant)
    same c.in_err-begin_row-in-Some-row_of.ensures

pub down-smaller-in-Continue-branch-8 : goal.down-smaller-in-Continue-branch-8
down-smaller-in-Continue-branch-8 g c =
    let was = snoc_tasks _ _ _ _ c.in-Some.ensures.items c.in-Visit.is in
    fewer_steps _ _ _ (bare_expr c.in-Visit.node.now) was (snoc_then _ _ _ _ _ c.in_ok-push-in-Visit.ensures.items (below _ _ c.in-Visit.node.now c.in_ok-push_children-in-None.ensures))

pub down-preserved-in-Continue-branch-8 : goal.down-preserved-in-Continue-branch-8
down-preserved-in-Continue-branch-8 g c =
    let was = snoc_tasks _ _ _ _ c.in-Some.ensures.items c.in-Visit.is in
    visit_fits (g.W.PostOrder.answer c.args.walk.now) (bare_expr c.args.root.now) _ _ (bare_expr c.in-Visit.node.now) _ _ ((g.met.W.PostOrder.by_nodes c.args.walk.now).strict (bare_expr c.in-Visit.node.now)) was
    (snoc_then _ _ _ _ _ c.in_ok-push-in-Visit.ensures.items (below _ _ c.in-Visit.node.now c.in_ok-push_children-in-None.ensures)) c.down.invariant

pub down-smaller : goal.down-smaller
down-smaller g c = fewer_by_one _ _ (bare_expr c.in-Make.node.now) (snoc_tasks _ _ _ _ c.in-Some.ensures.items c.in-Make.is)

pub down-preserved : goal.down-preserved
down-preserved g c =
    let was = snoc_tasks _ _ _ _ c.in-Some.ensures.items c.in-Make.is in
    let made = c.in_ok-make-in-Make.ensures in
    make_fits (g.W.PostOrder.answer c.args.walk.now) (bare_expr c.args.root.now) _ _ (bare_expr c.in-Make.node.now) g.W.PostOrder.meaning_of c.down.done.items was c.down.invariant
    (g.met.W.PostOrder.by_nodes c.args.walk.now) made.1 made.0 _ made.3 made.2

pub make-requires-in-Make : goal.make-requires-in-Make
make-requires-in-Make g c =
    let was = snoc_tasks _ _ _ _ c.in-Some.ensures.items c.in-Make.is in
    let there = make_room (g.W.PostOrder.answer c.args.walk.now) (bare_expr c.args.root.now) _ _ _ g.W.PostOrder.meaning_of c.down.done.items was c.down.invariant in
    omega (arith, there, c.down.done.ok.0)

pub returns-in_err-make-in-Make : goal.returns-in_err-make-in-Make
returns-in_err-make-in-Make g c =
    let W = g.W.PostOrder in
    let e = bare_expr c.in-Make.node.now in
    let root = bare_expr c.args.root.now in
    let was = snoc_tasks _ _ _ _ c.in-Some.ensures.items c.in-Make.is in
    let same : c.from_residual-in_err-make-in-Make.result ≡ Err c.in_err-make-in-Make.field-0.0 = search rules in
    refusal_ends (W.answer c.args.walk.now) root W.meaning_of W.fault_of (W.is_made_of c.args.walk.now e) (length (children e)) _ _ c.in_err-make-in-Make.field-0.0 _
    (make_ends (W.answer c.args.walk.now) root _ _ e W.meaning_of c.down.done.items was c.down.invariant (g.met.W.PostOrder.by_nodes c.args.walk.now) _) same c.in_err-make-in-Make.ensures

pub returns-in_err-make-in-Visit : goal.returns-in_err-make-in-Visit
returns-in_err-make-in-Visit g c =
    let W = g.W.PostOrder in
    let e = bare_expr c.in-Visit.node.now in
    let root = bare_expr c.args.root.now in
    let was = snoc_tasks _ _ _ _ c.in-Some.ensures.items c.in-Visit.is in
    let same : c.from_residual-in_err-make-in-Visit.result ≡ Err c.in_err-make-in-Visit.field-0.0 = search rules in
    refusal_ends (W.answer c.args.walk.now) root W.meaning_of W.fault_of (W.is_made_of c.args.walk.now e) (length (children e)) _ _ c.in_err-make-in-Visit.field-0.0 _
    (leaf_ends (W.answer c.args.walk.now) root _ _ e W.meaning_of c.down.done.items was c.down.invariant (c.is_leaf-in-Visit.ensures.childless c.if-is_leaf-2.true) (g.met.W.PostOrder.by_nodes c.args.walk.now) _) same c.in_err-make-in-Visit.ensures
