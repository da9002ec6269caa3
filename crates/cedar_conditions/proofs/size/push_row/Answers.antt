use Rattle.std.proofs.Common.{arith}
use Rattle.cedar_conditions.proofs.Pushing.{none_pushed, row_ends, row_next}
use Rattle.cedar_conditions.proofs.size.push_row.Goals as goal

pub loop-member-init : goal.loop-member-init
loop-member-init c = none_pushed c.args.depth c.args.nodes.now.items

pub loop-member-preserved : goal.loop-member-preserved
loop-member-preserved c =
    let l = c.loop-member in
    row_next c.args.depth c.args.row.now l.member-index c.member-item.result c.args.nodes.now.items
    l.nodes.items c.push.new.nodes.items c.loop-member-test.true c.member-item.is l.invariant
    c.in_ok-push.ensures

pub returns : goal.returns
returns c =
    let l = c.loop-member in
    row_ends c.args.depth c.args.row.now l.member-index c.args.nodes.now.items l.nodes.items
    (omega (arith, c.loop-member-test.false)) l.invariant
