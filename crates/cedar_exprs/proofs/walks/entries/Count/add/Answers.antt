use Rattle.std.proofs.Common.{arith, ap}
use Rattle.cedar_exprs.specs.Entries.{entries_left, nodes_left}
use Rattle.cedar_exprs.proofs.Counts.{entries-snoc, nodes-snoc}
use Rattle.cedar_exprs.proofs.Stacks.{needs_one}
use Rattle.cedar_exprs.proofs.walks.entries.Count.add.Goals as goal

pub returns-clause-added : goal.returns-clause-added
returns-clause-added g c =
    let is = c.in_ok-push.ensures.items in
    let old = c.args.self.now.left.items in
    (omega (arith, ap entries_left is, entries-snoc old (c.args.child, c.args.below), needs_one c.args.child.now), omega (arith, ap nodes_left is, nodes-snoc old (c.args.child, c.args.below)))
