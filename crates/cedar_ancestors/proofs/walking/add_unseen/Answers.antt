use Rattle.std.proofs.Common.{get_or, rules}
use Rattle.cedar_ancestors.proofs.Marking.{IsMarked-push, IsAdded-push, IsAdded-skip}
use Rattle.cedar_ancestors.proofs.walking.add_unseen.Goals as goal
use Rattle.cedar_ancestors.proofs.walking.add_unseen.Goals.{then-not-seen-item+in_ok-push, else-not-seen-item}

pub loop-item-preserved : goal.loop-item-preserved
loop-item-preserved c =
    let items = c.args.items.now in
    let i = c.loop-item.item-index in
    let item = get_or items i 0 in
    let before = c.args.found.now.items in
    elim c.if-not-seen-item.branch [
      | then-not-seen-item+in_ok-push w ↦ record {
        marked = rw (w.seen-is, w.found-is, w.in_ok-push.ensures.items) (IsMarked-push c.loop-item.seen c.loop-item.found.items item c.loop-item.invariant.marked (search rules) (search rules));
        added = rw (w.found-is, w.in_ok-push.ensures.items) (IsAdded-push items before c.loop-item.found.items i c.loop-item-test.true c.loop-item.invariant.added);
      }
      | else-not-seen-item w ↦ record {
        marked = rw (w.seen-is, w.found-is) c.loop-item.invariant.marked;
        added = rw w.found-is (IsAdded-skip items before c.loop-item.found.items i c.loop-item-test.true ((c.loop-item.invariant.marked.marked item).0 w.if-not-seen-item.false) c.loop-item.invariant.added);
      }
    ]
