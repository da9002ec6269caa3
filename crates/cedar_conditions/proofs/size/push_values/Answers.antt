use Rattle.std.proofs.Common.{map}
use Rattle.cedar_conditions.proofs.Pushing.{left_ends, left_next}
use Rattle.cedar_conditions.proofs.size.push_values.Goals as goal

pub loop-value-preserved : goal.loop-value-preserved
loop-value-preserved c =
    let l = c.loop-value in
    left_next c.args.depth l.value-iterator _ (map (λ e. e.1) c.args.pairs.now.entries)
    c.in-Some.value.now c.args.nodes.now.items l.nodes.items c.push.new.nodes.items
    c.in-Some.ensures.steps c.in_ok-push.ensures l.invariant

pub returns : goal.returns
returns c =
    let l = c.loop-value in
    left_ends c.args.depth l.value-iterator (map (λ e. e.1) c.args.pairs.now.entries)
    c.args.nodes.now.items l.nodes.items c.in-None.ensures.steps.0 l.invariant
