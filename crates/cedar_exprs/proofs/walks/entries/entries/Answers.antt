use Rattle.std.proofs.Common.{arith, ap, ◌∙◌}
use Rattle.cedar_exprs.specs.Entries.{entries_left}
use Rattle.cedar_exprs.proofs.Counts.{entries-snoc, still_all, fewer_left}
use Rattle.cedar_exprs.proofs.Stacks.{needs_one}
use Rattle.cedar_exprs.proofs.walks.entries.entries.Goals as goal

pub walk-init : goal.walk-init
walk-init g c =
    omega (arith, ap entries_left c.in_ok-push.ensures.items, entries-snoc c.new.result.items (c.args.expr, 0), ap entries_left c.new.ensures.items, needs_one c.args.expr.now)

pub walk-preserved : goal.walk-preserved
walk-preserved g c =
    let n = c.in-Some in
    still_all c.walk.count.most c.walk.count.left.items c.pop.new.self.items n.node n.below c.record_height.new.self c.add_children.new.self n.ensures.items c.in_ok-record_height.ensures.most c.in_ok-record_height.ensures.left
    c.in_ok-add_children.ensures
    ∙ c.walk.invariant

pub walk-smaller : goal.walk-smaller
walk-smaller g c =
    let n = c.in-Some in
    fewer_left c.walk.count.most c.walk.count.left.items c.pop.new.self.items n.node n.below c.record_height.new.self c.add_children.new.self n.ensures.items c.in_ok-record_height.ensures.most c.in_ok-record_height.ensures.left
    c.in_ok-add_children.ensures
