use Rattle.std.proofs.Common.{rules, ◌≡◌, ◌∷◌, ◌+◌, [], IsTrue, arith, refl, ap, subst, ◌∙◌, Global}
use Rattle.std.specs.List.{list_all}
use Rattle.std.specs.Rc.{rc_str_bytes}
use Rattle.std.specs.declared.rc.RcStr.{RcStr}
use Rattle.cedar_builders.specs.Count.{count}
use Rattle.cedar_exprs.specs.BareExpr.{bare_expr, expr_place}
use Rattle.cedar_exprs.specs.declared.expr.Expr.{Expr}
use Rattle.cedar_values.specs.BareValues.{value_place}
use Rattle.cedar_values.specs.RowsRead.{IsRead, IsRecordRead, pair_nodes}
use Rattle.cedar_values.specs.WellFormed.{well_formed}
use Rattle.cedar_values.specs.declared.value.ValueKind.TheVariants.{Record}
use Rattle.cedar_values.proofs.RowsRead.{all_pairs, kind_read, next_above, one_more_pair}
use Rattle.cedar_values.proofs.Writings.{if_some}
use Rattle.cedar_values.proofs.from_expr.read_pairs.Goals as goal

pub each-preserved : goal.each-preserved
each-preserved g c =
    let R = g.X.Ord.cmp in
    let e = c.each.row.expr.now in
    let vs = c.each.row.values.entries in
    let d : RcStr Global × Expr Unit = (c.in-Some.key.now, c.in-Some.expr.now) in
    let k = c.in_ok-key.key in
    let v = c.in-Some-2.value in
    let left = c.next.new.self in
    let taken : c.each.row.rest ≡ d ∷ left = c.in-Some.ensures.steps in
    let key : rc_str_bytes k ≡ rc_str_bytes d.0 = c.in_ok-key.ensures.cases in
    let h = subst (IsRecordRead R e vs) taken c.each.invariant.0 in
    let put = c.in_ok-put_last-in-Some-2.ensures (next_above R e vs d left k h key) in
    let read = if_some (λ v. IsRead R d.1 v) c.in_ok-value.field-0 v c.in-Some-2.is c.in_ok-value.ensures.read in
    let kept = if_some (λ v. IsTrue (well_formed R v)) c.in_ok-value.field-0 v c.in-Some-2.is c.in_ok-value.ensures.well_formed in
    let fewer : pair_nodes c.each.row.rest ≡ count (bare_expr d.1) + pair_nodes left = ap pair_nodes taken in (
      one_more_pair R e d vs c.put_last.new.map.entries left k v h key read kept put,
      c.each.invariant.1,
      omega (arith, fewer, c.each.invariant.2),
    )

pub returns-in-None-clause-step : goal.returns-in-None-clause-step
returns-in-None-clause-step g c =
    let R = g.X.Ord.cmp in
    let d : RcStr Global × Expr Unit = (c.in-Some.key.now, c.in-Some.expr.now) in
    let taken : c.each.row.rest ≡ d ∷ c.next.new.self = c.in-Some.ensures.steps in
    ((d.0, c.in_ok-key.ensures.cases, subst (IsRecordRead R c.each.row.expr.now c.each.row.values.entries) taken c.each.invariant.0), c.each.invariant.1)

pub returns-clause-step : goal.returns-clause-step
returns-clause-step g c =
    let R = g.X.Ord.cmp in
    let e = c.args.row.expr.now in
    let vs = c.each.row.values.entries in
    let m = c.in_ok-record.record in
    let made = c.in_ok-record.ensures.ok in
    let none : c.each.row.rest ≡ [] = search rules in
    let h = subst (λ d. IsRecordRead R d vs c.each.row.rest) c.each.invariant.1 c.each.invariant.0 in
    let place : value_place c.record_arc.result ≡ expr_place c.each.row.expr.now = search rules in (
      kind_read R e c.record_arc.result (Record m) c.record_arc.ensures.kind (all_pairs R e vs c.each.row.rest m c.each.row.values none made refl h),
      c.record_arc.ensures.well_formed R ∙ (λ i. list_all (λ e. well_formed R e.1) (made i).entries) ∙ h.kept,
      place ∙ ap expr_place c.each.invariant.1,
    )
