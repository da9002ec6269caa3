use Rattle.std.proofs.Common.{rules, ◌≡◌, [], Err, MatchResult, refl, sym, subst}
use Rattle.cedar_exprs.specs.BareExpr.{bare_expr}
use Rattle.semantics_values.specs.Reading.{IsValueOf}
use Rattle.cedar_values.specs.BareValues.{bare_value}
use Rattle.cedar_values.specs.NotReadable.{IsNotValueAt, first_not_readable}
use Rattle.cedar_values.specs.RowsRead.{row_expr}
use Rattle.cedar_exprs.specs.FirstNodes.{InPreorder}
use Rattle.cedar_values.proofs.RowsRead.{Nested, back_fewer, course_back, course_into, into_fewer, nested_fault}
use Rattle.cedar_values.proofs.from_expr.value_of.Goals as goal

pub walk-init : goal.walk-init
walk-init g c =
    let R = g.X.Ord.cmp in
    let e = c.args.expr.now in
    let none : c.new-waiting.result.items ≡ [] = search rules in
    (e, subst (λ ws. Nested R ws e e) (sym none) refl, c.in_ok-step.ensures.outcome)

pub returns-in_err-step-in-Into-clause-outcome : goal.returns-in_err-step-in-Into-clause-outcome
returns-in_err-step-in-Into-clause-outcome g c =
    let R = g.X.Ord.cmp in
    let e = c.args.expr.now in
    let all = c.push.new.self.items in
    let d = c.in-Into.inner in
    let x = c.in_err-step-in-Into.field-0.0 in
    let o : InPreorder Unit = c.nodes_in_preorder.ensures in
    let same : c.from_residual-in_err-step-in-Into.result ≡ Err x = search rules in
    let nested = course_into R all c.walk.waiting.items c.in-Into.row d c.walk.step e c.in_ok-push-in-Into.ensures.items c.in-Into.is c.walk.invariant in
    subst (λ r. MatchResult r (λ v. IsValueOf R (bare_expr e) (bare_value v)) (IsNotValueAt (first_not_readable e))) (sym same)
    (nested_fault R o c.reading_gives_one_value.ensures.readable x all d.now e nested c.in_err-step-in-Into.ensures.outcome)

pub walk-smaller-in-Into : goal.walk-smaller-in-Into
walk-smaller-in-Into g c =
    into_fewer c.push.new.self.items c.walk.waiting.items c.in-Into.row c.in-Into.inner c.walk.step c.in_ok-step-in-Into.step c.in_ok-push-in-Into.ensures.items c.in-Into.is c.in_ok-step-in-Into.ensures.fewer

pub walk-preserved-in-Into : goal.walk-preserved-in-Into
walk-preserved-in-Into g c = (
  c.in-Into.inner.now,
  course_into g.X.Ord.cmp c.push.new.self.items c.walk.waiting.items c.in-Into.row c.in-Into.inner c.walk.step c.args.expr.now c.in_ok-push-in-Into.ensures.items c.in-Into.is c.walk.invariant,
  c.in_ok-step-in-Into.ensures.outcome,
)

pub resume_row-requires : goal.resume_row-requires
resume_row-requires g c =
    (course_back g.X.Ord.cmp c.walk.waiting.items c.pop.new.self.items c.in-Some.row c.in-Read.value c.walk.step c.args.expr.now c.in-Some.ensures.items c.in-Read.is c.walk.invariant).0

pub walk-smaller : goal.walk-smaller
walk-smaller g c =
    back_fewer c.walk.waiting.items c.pop.new.self.items c.in-Some.row c.in-Read.value c.walk.step c.in_ok-step-in-Some.step c.in-Some.ensures.items c.in-Read.is c.in_ok-step-in-Some.ensures.fewer

pub walk-preserved : goal.walk-preserved
walk-preserved g c = (
  row_expr c.in-Some.row,
  (course_back g.X.Ord.cmp c.walk.waiting.items c.pop.new.self.items c.in-Some.row c.in-Read.value c.walk.step c.args.expr.now c.in-Some.ensures.items c.in-Read.is c.walk.invariant).1,
  c.in_ok-step-in-Some.ensures.step,
)
