use Rattle.serde_json.specs.View.{members_view}
use Rattle.cedar_bindings.proofs.Pairs.{named_end}
use Rattle.cedar_bindings.proofs.bindings.pairs_of.Goals as goal

pub returns : goal.returns
returns c =
    named_end c.loop-name.name-iterator (members_view c.args.members.now.entries) c.loop-name.pairs.items
    c.in-None.ensures.steps.0 c.loop-name.invariant
