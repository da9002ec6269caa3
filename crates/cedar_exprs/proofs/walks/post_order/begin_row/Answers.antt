use Rattle.std.proofs.Common.{◌≡◌, IsTrue, Err, Ok, [], ◌∷◌, ◌++◌, map, refl, sym, ap, ◌∙◌, append_assoc, append-nil, rules}
use Rattle.std.proofs.lemmas.List.{map-append}
use Rattle.cedar_exprs.specs.BareExpr.{bare_expr}
use Rattle.cedar_exprs.proofs.Running.{leaf_gives, gathered_push, refusal_begins}
use Rattle.cedar_exprs.proofs.walks.post_order.begin_row.Goals as goal

pub leaves-init : goal.leaves-init
leaves-init g c = ([], [], refl, refl, sym (append-nil c.args.done.now.items))

pub leaves-preserved : goal.leaves-preserved
leaves-preserved g c =
    let W = g.W.PostOrder in
    let first = c.in-Some.first.now in
    let made = c.in_ok-make.ensures in
    let out = made.0 in
    let before = c.leaves.invariant in
    let cut : c.leaves.left.now ≡ first ∷ c.in-Some.later.now = search rules in
    let leaf : IsTrue c.is_leaf.result = search rules in
    let gives = leaf_gives (W.answer c.args.walk.now) (bare_expr first) W.meaning_of (c.is_leaf.ensures.childless leaf) (g.met.W.PostOrder.by_nodes c.args.walk.now) _ _ (Ok (W.meaning_of out)) made.3 in (
      before.0 ++ bare_expr first ∷ [],
      before.1 ++ out ∷ [],
      before.2 ∙ ap (λ es. before.0 ++ map bare_expr es) cut ∙ sym (append_assoc before.0 (bare_expr first ∷ []) (map bare_expr c.in-Some.later.now)),
      gathered_push (W.answer c.args.walk.now) before.0 (bare_expr first) (map W.meaning_of before.1) (W.meaning_of out) before.3 gives.0 ∙ ap Ok (sym (map-append W.meaning_of before.1 (out ∷ []))),
      made.2 ∙ ap (λ xs. xs ++ out ∷ []) (gives.1 ∙ before.4) ∙ append_assoc c.args.done.now.items before.1 (out ∷ []),
    )

pub returns-in_err-make : goal.returns-in_err-make
returns-in_err-make g c =
    let W = g.W.PostOrder in
    let first = c.in-Some.first.now in
    let before = c.leaves.invariant in
    let cut : c.leaves.left.now ≡ first ∷ c.in-Some.later.now = search rules in
    let leaf : IsTrue c.is_leaf.result = search rules in
    let same : c.from_residual.result ≡ Err c.in_err-make.field-0.0 = search rules in
    refusal_begins (W.answer c.args.walk.now) W.meaning_of W.fault_of (g.met.W.PostOrder.by_nodes c.args.walk.now) _ before.0 (map bare_expr c.in-Some.later.now) (bare_expr first) _ _ _ _ _ _ c.in_err-make.field-0.0 _
    (c.is_leaf.ensures.childless leaf) (before.2 ∙ ap (λ es. before.0 ++ map bare_expr es) cut) before.3 same c.in_err-make.ensures
