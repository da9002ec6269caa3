use Rattle.std.proofs.Common.{◌≡◌, Err, ap, arith, map, rules, ◌∙◌}
use Rattle.std.specs.Prelude.{string_bytes}
use Rattle.serde_json.specs.Data.{array}
use Rattle.serde_json.proofs.Views.{view-Object}
use Rattle.serde_json.specs.View.{items_view, members_view, view}
use Rattle.cedar_builders.specs.Keys.{meant_pairs}
use Rattle.cedar_exprs.specs.BareExpr.{bare_expr}
use Rattle.cedar_json.specs.Refusals.{IsNothing}
use Rattle.cedar_json.specs.Values.{AreFields, IsRecordOf, StandsFor}
use Rattle.cedar_json.proofs.Nothing.{nothing_behind, nothing_of, passed}
use Rattle.cedar_json.proofs.Objects.{marked_value, plain_value, text_value, view-String}
use Rattle.cedar_json.proofs.Records.{made_record}
use Rattle.cedar_json.proofs.Rows.{as_each, as_members, each_at, ends, fields_end, fields_first, fields_go_on, fields_next, goes_on}
use Rattle.cedar_json.proofs.values.+values.Goals as goal

pub set_of-loop-item-preserved : goal.set_of-loop-item-preserved
set_of-loop-item-preserved t c =
    let l = c.loop-item in
    goes_on StandsFor bare_expr c.args.items.now l.item-index c.item-item.result l.members.items
    c.push_item.new.done.items c.in-Ok.member c.loop-item-test.true c.item-item.is
    c.in_ok-push_item-in-Ok.ensures l.invariant c.in-Ok.ensures

pub set_of-returns : goal.set_of-returns
set_of-returns t c =
    let l = c.loop-item in (
      map bare_expr l.members.items,
      as_members (items_view c.args.items.now) (map bare_expr l.members.items)
          (ends StandsFor bare_expr c.args.items.now l.item-index l.members.items
          (omega (arith, c.loop-item-test.false)) l.invariant),
      c.in_ok-set.ensures.tree,
    )

pub pairs_of-loop-key-preserved : goal.pairs_of-loop-key-preserved
pairs_of-loop-key-preserved t c =
    let l = c.loop-key in (
      fields_go_on l.key-iterator _ _ c.in-Some.member.now (members_view c.args.members.now.entries)
          l.pairs.items c.push_item.new.done.items _ c.in-Some.ensures.steps c.in_ok-push_item-in-Ok.ensures
          (c.in_ok-from_str-in-Ok.ensures.ok ∙ c.deref.ensures) c.in-Ok.ensures l.invariant.0,
      fields_next l.key-iterator _ _ c.in-Some.member.now (members_view c.args.members.now.entries)
          c.in-Some.ensures.steps l.invariant.1,
    )

pub pairs_of-returns : goal.pairs_of-returns
pairs_of-returns t c =
    let l = c.loop-key in
    fields_end l.key-iterator (members_view c.args.members.now.entries) l.pairs.items
    c.in-None.ensures.steps.0 l.invariant.0

pub record_of-returns-in-Ok : goal.record_of-returns-in-Ok
record_of-returns-in-Ok t c =
    let pairs = c.in_ok-pairs.pairs in (
      meant_pairs bare_expr pairs.items,
      c.in_ok-pairs.ensures,
      made_record pairs.items (bare_expr c.in-Ok.record) c.in-Ok.ensures.made.tree,
    )

pub set_of-returns-in-Err : goal.set_of-returns-in-Err
set_of-returns-in-Err t c =
    let l = c.loop-item in
    nothing_behind (StandsFor (view c.item-item.result)) (StandsFor (array (items_view c.args.items.now)))
    (λ e h. each_at StandsFor c.args.items.now h.0 l.item-index c.item-item.result c.loop-item-test.true c.item-item.is
    (as_each (items_view c.args.items.now) h.0 h.1)) c.in-Err.failure c.behind.result c.behind.ensures.memory
    c.in-Err.ensures

pub pairs_of-returns-in-Err : goal.pairs_of-returns-in-Err
pairs_of-returns-in-Err t c =
    let l = c.loop-key in
    let all = members_view c.args.members.now.entries in
    nothing_behind (StandsFor (view c.in-Some.member.now)) (AreFields all)
    (fields_first l.key-iterator _ _ c.in-Some.member.now all c.in-Some.ensures.steps l.invariant.1)
    c.in-Err.failure c.behind.result c.behind.ensures.memory c.in-Err.ensures

pub record_of-returns-in_err-pairs : goal.record_of-returns-in_err-pairs
record_of-returns-in_err-pairs t c =
    let ms = members_view c.args.members.now.entries in
    let failure = c.in_err-pairs.field-0.0 in
    let same : c.from_residual.result ≡ Err failure = search rules in
    passed (λ e. IsRecordOf ms (bare_expr e)) (IsNothing (IsRecordOf ms)) c.from_residual.result failure same
    (nothing_of (AreFields ms) (IsRecordOf ms) (λ e h. (h.0, h.1)) failure c.in_err-pairs.ensures)

pub meant_expr-returns-in-String : goal.meant_expr-returns-in-String
meant_expr-returns-in-String t c =
    text_value bare_expr c.text_of.result (view c.args.json.now) c.deref.result.now (string_bytes c.in-String.text)
    (ap view c.in-String.is ∙ view-String c.in-String.text) c.deref.ensures c.text_of.ensures

pub meant_expr-returns-in-None : goal.meant_expr-returns-in-None
meant_expr-returns-in-None t c =
    plain_value bare_expr c.record_of.result (view c.args.json.now) (members_view c.in-Object.members.entries)
    (ap view c.in-Object.is ∙ view-Object c.in-Object.members) c.in-None.ensures c.record_of.ensures

pub meant_expr-returns-in-Some : goal.meant_expr-returns-in-Some
meant_expr-returns-in-Some t c =
    marked_value bare_expr c.in-Some.read (view c.args.json.now) (members_view c.in-Object.members.entries)
    (ap view c.in-Object.is ∙ view-Object c.in-Object.members) c.in-Some.ensures
