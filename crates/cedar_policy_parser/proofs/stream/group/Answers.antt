use Rattle.cedar_policy_parser.proofs.Firsts.{group_cut}
use Rattle.cedar_policy_parser.proofs.Groups.{group_taken}
use Rattle.cedar_policy_parser.proofs.stream.group.Goals as goal

pub returns-clause-taken : goal.returns-clause-taken
returns-clause-taken c =
    let e = c.take_group.ensures in
    group_taken c.take_group.result c.args.tokens.now c.take_group.new.self c.requires e.all e.end e.kind e.place

pub returns-clause-whole : goal.returns-clause-whole
returns-clause-whole c e expr rest split stands end =
    let taken = c.take_group.ensures in
    let old = c.args.tokens.now in
    let new = c.take_group.new.self in
    let group = c.take_group.result in
    group_cut c.args.ends_at_comma group old new expr rest
    (group_taken group old new c.requires taken.all taken.end taken.kind taken.place).all taken.exact split
    (c.brackets_are_whole.ensures expr e stands) end
