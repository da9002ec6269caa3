use Rattle.std.proofs.Common.{rules, ◌≡◌, ◌++◌, ◌∷◌, [], ◌+◌, arith, sym, ap, subst, ◌∙◌, Global}
use Rattle.std.specs.Rc.{rc_str_bytes}
use Rattle.std.specs.declared.rc.RcStr.{RcStr}
use Rattle.cedar_builders.specs.BareExpr.{Record, fields_of}
use Rattle.cedar_builders.specs.Keys.{IsAscending, keys_of}
use Rattle.cedar_builders.specs.Restricted.{IsRestricted, is_restricted}
use Rattle.cedar_exprs.specs.BareExpr.{bare_expr, bare_fields}
use Rattle.cedar_values.specs.BareValues.{bare_value}
use Rattle.cedar_values.specs.Conversions.{bare_pairs}
use Rattle.cedar_values.specs.Counts.{nodes, pair_nodes}
use Rattle.cedar_values.specs.Rows.{written}
use Rattle.cedar_values.specs.declared.value.Value.{Value}
use Rattle.cedar_values.proofs.Restrictions.{restricted_record}
use Rattle.cedar_values.proofs.Writings.{if_some, put_key, put_restricted, all_pairs, next_pair, next_above}
use Rattle.cedar_values.proofs.to_expr.write_pairs.Goals as goal

pub each-preserved : goal.each-preserved
each-preserved g c =
    let C = g.X.ExtensionValue.canonical in
    let made = c.each.row.exprs.entries in
    let left = c.next.new.self in
    let v : RcStr Global × Value _ = (c.in-Some.key.now, c.in-Some.value.now) in
    let k = c.in_ok-key.key in
    let e = c.in-Some-2.expr in
    let taken : c.each.row.rest ≡ v ∷ left = c.in-Some.ensures.steps in
    let key : rc_str_bytes k ≡ rc_str_bytes v.0 = c.in_ok-key.ensures.cases in
    let keys : keys_of made ++ keys_of c.each.row.rest ≡ keys_of made ++ rc_str_bytes k ∷ keys_of left = ap (λ vs. keys_of made ++ keys_of vs) taken ∙ ap (λ t. keys_of made ++ t ∷ keys_of left) (sym key) in
    let put = c.in_ok-put_last-in-Some-2.ensures (next_above made k (keys_of left) (subst IsAscending keys c.each.invariant.2)) in
    let all = c.put_last.new.map.entries in
    let tree = if_some (λ e. bare_expr e ≡ written C v.1) c.in_ok-expr.field-0 e c.in-Some-2.is c.in_ok-expr.ensures.tree in
    let restricted = if_some (λ e. IsRestricted (bare_expr e)) c.in_ok-expr.field-0 e c.in-Some-2.is c.in_ok-expr.ensures.restricted in
    let fewer : pair_nodes (bare_pairs c.each.row.rest) ≡ nodes (bare_value v.1) + pair_nodes (bare_pairs left) = ap (λ vs. pair_nodes (bare_pairs vs)) taken in (
      ap (λ ps. Record (fields_of ps)) (next_pair C made all k e c.each.row.rest left v put taken key tree) ∙ c.each.invariant.0,
      put_restricted made all k e put c.each.invariant.1 restricted,
      subst IsAscending (keys ∙ sym (put_key made all k e (keys_of left) put)) c.each.invariant.2,
      c.each.invariant.3,
      omega (arith, fewer, c.each.invariant.4),
    )

pub returns-clause-tree : goal.returns-clause-tree
returns-clause-tree g c =
    let none : c.each.row.rest ≡ [] = search rules in
    c.at_place.ensures.tree
    ∙ c.record_arc-record.ensures.tree
    ∙ (λ i. Record (bare_fields (c.in_ok-new.ensures.ok i).entries))
    ∙ all_pairs g.X.ExtensionValue.canonical c.each.row.exprs.entries c.each.row.rest none
    ∙ c.each.invariant.0

pub returns-clause-is_step : goal.returns-clause-is_step
returns-clause-is_step g c =
    ap is_restricted (c.at_place.ensures.tree ∙ c.record_arc-record.ensures.tree ∙ λ i. Record (bare_fields (c.in_ok-new.ensures.ok i).entries))
    ∙ restricted_record c.each.row.exprs.entries c.each.invariant.1
