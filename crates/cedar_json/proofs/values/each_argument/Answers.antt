use Rattle.std.proofs.Common.{◌≡◌, Err, map, rules}
use Rattle.cedar_exprs.specs.BareExpr.{bare_expr}
use Rattle.serde_json.specs.View.{items_view, view}
use Rattle.cedar_json.specs.Refusals.{IsNothing}
use Rattle.cedar_json.specs.Values.{AreEach}
use Rattle.cedar_json.proofs.Nothing.{nothing_of, passed}
use Rattle.cedar_json.proofs.Rows.{each_at, goes_on}
use Rattle.cedar_json.proofs.values.each_argument.Goals as goal

pub loop-arg-preserved : goal.loop-arg-preserved
loop-arg-preserved g c =
    let l = c.loop-arg in
    goes_on g.A.Argument.is_argument bare_expr
    c.args.args.now l.arg-index c.arg-item.result l.exprs.items c.push_item.new.done.items
    c.in_ok-expr.expr c.loop-arg-test.true c.arg-item.is c.in_ok-push_item.ensures
    l.invariant c.in_ok-expr.ensures

pub returns-in_err-expr : goal.returns-in_err-expr
returns-in_err-expr g c =
    let l = c.loop-arg in
    let P = g.A.Argument.is_argument in
    let items = c.args.args.now in
    let failure = c.in_err-expr.field-0.0 in
    let same : c.from_residual-in_err-expr.result ≡ Err failure = search rules in
    passed (λ es. AreEach P (items_view items) (map bare_expr es.items)) (IsNothing (AreEach P (items_view items)))
    c.from_residual-in_err-expr.result failure same
    (nothing_of (P (view c.arg-item.result)) (AreEach P (items_view items))
    (λ es h. each_at P items es l.arg-index c.arg-item.result c.loop-arg-test.true c.arg-item.is h)
    failure c.in_err-expr.ensures)
