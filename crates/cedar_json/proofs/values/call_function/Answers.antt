use Rattle.std.proofs.Common.{◌≡◌, Err, length, map, rules, subst, sym, ◌∙◌}
use Rattle.serde_json.specs.View.{view}
use Rattle.cedar_names.specs.PlainNames.{bare_name}
use Rattle.cedar_exprs.specs.BareExpr.{bare_expr}
use Rattle.cedar_json.specs.Refusals.{IsNothing}
use Rattle.cedar_json.specs.Values.{IsCallWith, IsFunctionOf, IsNameIn, IsNamedCall}
use Rattle.cedar_json.proofs.Calls.{named_at, named_call_of, taken_count}
use Rattle.cedar_json.proofs.Nothing.{nothing_of, passed}
use Rattle.cedar_json.proofs.values.call_function.Goals as goal

pub returns : goal.returns
returns c = λ function.
    named_call_of bare_expr c.args.args.items (view c.args.json.now) c.args.function.now
    (bare_name c.in_ok-name.name) (bare_expr c.in_ok-call_extension_fn.field-0) function
    (subst (IsFunctionOf c.args.function.now) (c.len.ensures ∙ c.args.args.ok.0) c.in_ok-check_count.ensures) c.in_ok-name.ensures c.in_ok-call_extension_fn.ensures.tree

pub returns-in_err-check_count : goal.returns-in_err-check_count
returns-in_err-check_count c = λ function.
    let d = view c.args.json.now in
    let items = c.args.args.items in
    let failure = c.in_err-check_count.field-0.0 in
    let same : c.from_residual.result ≡ Err failure = search rules in
    passed (λ e. IsNamedCall d (map bare_expr items) (bare_expr e)) (IsNothing (IsCallWith d (length items)))
    c.from_residual.result failure same
    (nothing_of (λ (u : Unit). IsFunctionOf c.args.function.now c.len.result) (IsCallWith d (length items))
    (λ e h. (tt, taken_count h.0 d c.args.function.now e c.len.result (h.1 ∙ sym (c.len.ensures ∙ c.args.args.ok.0)) function h.2))
    failure c.in_err-check_count.ensures)

pub returns-in_err-name : goal.returns-in_err-name
returns-in_err-name c = λ function.
    let d = view c.args.json.now in
    let items = c.args.args.items in
    let failure = c.in_err-name.field-0.0 in
    let same : c.from_residual-in_err-name.result ≡ Err failure = search rules in
    passed (λ e. IsNamedCall d (map bare_expr items) (bare_expr e)) (IsNothing (IsCallWith d (length items)))
    c.from_residual-in_err-name.result failure same
    (nothing_of (IsNameIn c.args.function.now) (IsCallWith d (length items))
    (λ e h. (h.2.name, named_at h.0 d c.args.function.now e function h.2)) failure c.in_err-name.ensures)
