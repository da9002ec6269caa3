use Rattle.cedar_policy_parser.proofs.Taken.{wanted_taken}
use Rattle.cedar_policy_parser.proofs.Firsts.{next_begins, wanted_present}
use Rattle.cedar_policy_parser.proofs.stream.wanted.Goals as goal

pub returns-clause-taken : goal.returns-clause-taken
returns-clause-taken c =
    wanted_taken c.args.kind c.args.problem.now c.expect.result c.args.tokens.now c.expect.new.self c.requires c.expect.ensures.gives

pub returns-clause-present : goal.returns-clause-present
returns-clause-present c = wanted_present c.args.kind c.expect.result c.args.tokens.now c.expect.ensures.exact

pub returns-clause-next : goal.returns-clause-next
returns-clause-next c same some =
    let t = c.args.tokens.now in
    wanted_present c.args.kind c.expect.result t c.expect.ensures.exact (next_begins t c.args.kind c.requires.end some same)
