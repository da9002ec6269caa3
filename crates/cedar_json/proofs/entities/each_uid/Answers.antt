use Rattle.std.proofs.Common.{arith}
use Rattle.serde_json.specs.View.{items_view, view}
use Rattle.cedar_terms.specs.Entities.{bare_entity_uid}
use Rattle.cedar_json.specs.Entities.{IsUid}
use Rattle.cedar_json.specs.Values.{AreEach}
use Rattle.cedar_json.proofs.Nothing.{nothing_behind}
use Rattle.cedar_json.proofs.Rows.{each_at, ends, goes_on}
use Rattle.cedar_json.proofs.entities.each_uid.Goals as goal

pub loop-item-preserved : goal.loop-item-preserved
loop-item-preserved c =
    let l = c.loop-item in
    goes_on IsUid bare_entity_uid c.args.items.now l.item-index c.item-item.result l.uids.items
    c.push_item.new.done.items c.in-Ok.uid c.loop-item-test.true c.item-item.is
    c.in_ok-push_item-in-Ok.ensures l.invariant c.in-Ok.ensures

pub returns : goal.returns
returns c =
    let l = c.loop-item in
    ends IsUid bare_entity_uid c.args.items.now l.item-index l.uids.items
    (omega (arith, c.loop-item-test.false)) l.invariant

pub returns-in-Err : goal.returns-in-Err
returns-in-Err c =
    let l = c.loop-item in
    let items = c.args.items.now in
    nothing_behind (IsUid (view c.item-item.result)) (AreEach IsUid (items_view items))
    (λ es h. each_at IsUid items es l.item-index c.item-item.result c.loop-item-test.true c.item-item.is h)
    c.in-Err.failure c.behind.result c.behind.ensures.memory c.in-Err.ensures
