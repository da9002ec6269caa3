use Rattle.std.proofs.Common.{◌≡◌, Err, rules}
use Rattle.serde_json.specs.View.{view}
use Rattle.cedar_exprs.specs.BareExpr.{bare_expr}
use Rattle.cedar_json.specs.Refusals.{IsNothing}
use Rattle.cedar_json.specs.Values.{IsEntity, IsEntityLiteral}
use Rattle.cedar_json.proofs.Nothing.{nothing_of, passed}
use Rattle.cedar_json.proofs.values.entity_of.Goals as goal

pub returns-in_err-uid : goal.returns-in_err-uid
returns-in_err-uid c =
    let d = view c.args.json.now in
    let failure = c.in_err-uid.field-0.0 in
    let same : c.from_residual.result ≡ Err failure = search rules in
    passed (λ e. IsEntityLiteral d (bare_expr e)) (IsNothing (IsEntityLiteral d)) c.from_residual.result failure same
    (nothing_of (IsEntity d) (IsEntityLiteral d) (λ e h. (h.0, h.1)) failure c.in_err-uid.ensures)
