use Rattle.cedar_policy_parser.proofs.Firsts.{maybe_present}
use Rattle.cedar_policy_parser.proofs.stream.maybe.Goals as goal

pub returns-clause-present : goal.returns-clause-present
returns-clause-present c = maybe_present c.args.kind c.take_if.result c.args.tokens.now c.take_if.ensures.exact
