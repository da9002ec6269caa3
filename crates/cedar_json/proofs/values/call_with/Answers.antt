use Rattle.std.proofs.Common.{◌≡◌, Err, rules}
use Rattle.serde_json.specs.View.{items_view, view}
use Rattle.cedar_exprs.specs.BareExpr.{bare_expr}
use Rattle.cedar_json.specs.Refusals.{IsNothing}
use Rattle.cedar_json.specs.Values.{AreEach, IsCallOf}
use Rattle.cedar_json.proofs.Calls.{call_items, call_read}
use Rattle.cedar_json.proofs.Nothing.{nothing_of, passed}
use Rattle.cedar_json.proofs.values.call_with.Goals as goal

pub returns-in_err-exprs : goal.returns-in_err-exprs
returns-in_err-exprs g c = λ given.
    let P = g.A.Argument.is_argument in
    let d = view c.args.json.now in
    let ds = items_view c.args.args.now in
    let failure = c.in_err-exprs.field-0.0 in
    let same : c.from_residual.result ≡ Err failure = search rules in
    passed (λ e. IsCallOf P d (bare_expr e)) (IsNothing (IsCallOf P d)) c.from_residual.result failure same
    (nothing_of (AreEach P ds) (IsCallOf P d) (call_items P d ds given) failure c.in_err-exprs.ensures)

pub returns : goal.returns
returns g c = λ given.
    call_read g.A.Argument.is_argument (view c.args.json.now) (items_view c.args.args.now) given bare_expr bare_expr
    c.in_ok-exprs.exprs.items c.named_call.result c.in_ok-exprs.ensures c.named_call.ensures
