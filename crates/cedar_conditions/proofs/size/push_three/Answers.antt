use Rattle.std.proofs.Common.{[], ◌∷◌}
use Rattle.cedar_conditions.proofs.Pushing.{then_pushed}
use Rattle.cedar_conditions.proofs.size.push_three.Goals as goal

pub returns : goal.returns
returns c =
    then_pushed c.args.depth (c.args.first.now ∷ []) (c.args.second.now ∷ c.args.third.now ∷ [])
    c.args.nodes.now.items c.push.new.nodes.items c.push_two.new.nodes.items c.in_ok-push.ensures
    c.in_ok-push_two.ensures
