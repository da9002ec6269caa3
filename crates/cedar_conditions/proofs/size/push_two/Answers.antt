use Rattle.std.proofs.Common.{[], ◌∷◌}
use Rattle.cedar_conditions.proofs.Pushing.{then_pushed}
use Rattle.cedar_conditions.proofs.size.push_two.Goals as goal

pub returns : goal.returns
returns c =
    then_pushed c.args.depth (c.args.first.now ∷ []) (c.args.second.now ∷ [])
    c.args.nodes.now.items c.push.new.nodes.items c.push-2.new.nodes.items c.in_ok-push.ensures
    c.in_ok-push-2.ensures
