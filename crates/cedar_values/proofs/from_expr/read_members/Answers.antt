use Rattle.std.proofs.Common.{rules, ◌≡◌, ◌∷◌, ◌+◌, [], IsTrue, arith, ap, subst, ◌∙◌}
use Rattle.std.specs.Slice.Iter.{iter_rest}
use Rattle.std.proofs.lemmas.List.{nil_from_length}
use Rattle.cedar_builders.specs.Count.{count}
use Rattle.cedar_exprs.specs.BareExpr.{bare_expr, expr_place}
use Rattle.cedar_values.specs.BareValues.{value_place}
use Rattle.cedar_values.specs.RowsRead.{IsRead, IsSetRead, expr_nodes}
use Rattle.cedar_values.specs.WellFormed.{well_formed}
use Rattle.cedar_values.specs.declared.value.ValueKind.TheVariants.{Set}
use Rattle.cedar_values.proofs.Levels.{set_kept}
use Rattle.cedar_values.proofs.RowsRead.{all_members, kind_read, one_more_member}
use Rattle.cedar_values.proofs.Writings.{if_some}
use Rattle.cedar_values.proofs.from_expr.read_members.Goals as goal

pub each-preserved : goal.each-preserved
each-preserved g c =
    let R = g.X.Ord.cmp in
    let e = c.each.row.expr.now in
    let vs = c.each.row.values.items in
    let d = c.in-Some.member.now in
    let v = c.in-Some-2.value in
    let left = iter_rest c.next.new.self in
    let taken : iter_rest c.each.row.rest ≡ d ∷ left = c.in-Some.ensures.steps in
    let read = if_some (λ v. IsRead R d v) c.in_ok-value.field-0 v c.in-Some-2.is c.in_ok-value.ensures.read in
    let kept = if_some (λ v. IsTrue (well_formed R v)) c.in_ok-value.field-0 v c.in-Some-2.is c.in_ok-value.ensures.well_formed in
    let fewer : expr_nodes (iter_rest c.each.row.rest) ≡ count (bare_expr d) + expr_nodes left = ap expr_nodes taken in (
      one_more_member R e d vs c.push.new.self.items left v (subst (IsSetRead R e vs) taken c.each.invariant.0) read kept c.in_ok-push-in-Some-2.ensures.items,
      c.each.invariant.1,
      omega (arith, fewer, c.each.invariant.2),
    )

pub returns-clause-step : goal.returns-clause-step
returns-clause-step g c =
    let R = g.X.Ord.cmp in
    let e = c.args.row.expr.now in
    let vs = c.each.row.values.items in
    let s = c.in_ok-set.set in
    let none : iter_rest c.each.row.rest ≡ [] = nil_from_length (iter_rest c.each.row.rest) c.in_default.ensures.steps.0 in
    let h = subst (λ d. IsSetRead R d vs (iter_rest c.each.row.rest)) c.each.invariant.1 c.each.invariant.0 in
    let place : value_place c.new.result ≡ expr_place c.each.row.expr.now = search rules in (
      kind_read R e c.new.result (Set s) c.new.ensures.kind (all_members R c.values_are_ordered.ensures.total e vs (iter_rest c.each.row.rest) s none h c.in_ok-set.ensures.classes),
      c.new.ensures.well_formed R ∙ set_kept R s ∙ c.in_ok-set.ensures.well_formed h.kept,
      place ∙ ap expr_place c.each.invariant.1,
    )
