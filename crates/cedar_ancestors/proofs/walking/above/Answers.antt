use Rattle.std.proofs.Common.{◌<◌, length, arith, rules}
use Rattle.cedar_ancestors.proofs.Marking.{item_within}
use Rattle.cedar_ancestors.proofs.Closing.{closing_none, closing_more, closing_all, row_added, row_within}
use Rattle.cedar_ancestors.proofs.walking.above.Goals as goal

pub loop-next-init : goal.loop-next-init
loop-next-init c =
    let table = c.args.table.now in
    let added = row_added table c.args.index c.index-table-index.result c.deref.result.now c.requires.index c.index-table-index.is c.deref.ensures.value c.new-found.result.items c.add_unseen.new.found.items c.in_ok-add_unseen.ensures.added in
    record {
      closing = closing_none table c.args.index c.add_unseen.new.found.items (rw c.new-found.ensures.items at added);
      marked = c.in_ok-add_unseen.ensures.marked;
      long = search rules;
    }

pub bounds-table-node : goal.bounds-table-node
bounds-table-node c = item_within c.loop-next.seen c.loop-next.found.items (length c.args.table.now) c.loop-next.next c.index-node.result.now c.loop-next.invariant.long c.loop-next.invariant.marked (omega (arith, c.loop-next.found.ok.0, c.len.ensures)) c.index-node.ensures

pub offset_bounds-table-node : goal.offset_bounds-table-node
offset_bounds-table-node c = let lt : c.index-node.result.now < length c.args.table.now = item_within c.loop-next.seen c.loop-next.found.items (length c.args.table.now) c.loop-next.next c.index-node.result.now c.loop-next.invariant.long c.loop-next.invariant.marked (omega (arith, c.loop-next.found.ok.0, c.len.ensures)) c.index-node.ensures in search rules

pub add_unseen-requires-in-loop-next-clause-within :
    goal.add_unseen-requires-in-loop-next-clause-within
add_unseen-requires-in-loop-next-clause-within c =
    row_within c.args.table.now c.index-node.result.now c.index-table-node.result c.deref-in-loop-next.result.now (item_within c.loop-next.seen c.loop-next.found.items (length c.args.table.now) c.loop-next.next c.index-node.result.now c.loop-next.invariant.long c.loop-next.invariant.marked (omega (arith, c.loop-next.found.ok.0, c.len.ensures)) c.index-node.ensures) c.index-table-node.is c.deref-in-loop-next.ensures.value (length c.loop-next.seen) c.loop-next.invariant.long c.requires.within

pub loop-next-preserved : goal.loop-next-preserved
loop-next-preserved c =
    let table = c.args.table.now in
    let found = c.loop-next.found.items in
    let node = c.index-node.result.now in
    let lt : c.loop-next.next < length found = omega (arith, c.loop-next.found.ok.0, c.len.ensures) in
    let added = row_added table node c.index-table-node.result c.deref-in-loop-next.result.now (item_within c.loop-next.seen c.loop-next.found.items (length c.args.table.now) c.loop-next.next c.index-node.result.now c.loop-next.invariant.long c.loop-next.invariant.marked (omega (arith, c.loop-next.found.ok.0, c.len.ensures)) c.index-node.ensures) c.index-table-node.is c.deref-in-loop-next.ensures.value found c.add_unseen-in-loop-next.new.found.items c.in_ok-add_unseen-2.ensures.added in
    record {
      closing = closing_more table c.args.index found c.add_unseen-in-loop-next.new.found.items c.loop-next.next node lt c.index-node.ensures added c.loop-next.invariant.closing;
      marked = c.in_ok-add_unseen-2.ensures.marked;
      long = search rules;
    }

pub returns-clause-all : goal.returns-clause-all
returns-clause-all c = closing_all c.args.table.now c.args.index c.loop-next.next c.loop-next.found.items (omega (arith, c.loop-next.found.ok.0, c.len.ensures)) c.loop-next.invariant.closing
