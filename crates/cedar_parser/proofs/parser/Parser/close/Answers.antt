use Rattle.cedar_parser.proofs.Placed.{closing_placed}
use Rattle.cedar_parser.proofs.ParserSteps.{none_below}
use Rattle.cedar_parser.specs.Meant.{waits}
use Rattle.std.proofs.Common.{rules}
use Rattle.cedar_parser.proofs.CompleteSteps.{closing_resumed, none_open, some_left}
use Rattle.cedar_parser.proofs.parser.Parser.close.Goals as goal
use Rattle.std.proofs.Common.{max, ap, arith, refl}
use Rattle.cedar_parser.specs.Meant.{from}
use Rattle.cedar_parser.specs.Refused.{greatest, group_start, open_start}
use Rattle.cedar_parser.proofs.Greatest.{greatest_push}
use Rattle.cedar_parser.proofs.GroupSteps.{closing_parsed}
use Rattle.cedar_parser.proofs.InOrder.{first_from}

pub resume_group-requires-clause-opened : goal.resume_group-requires-clause-opened
resume_group-requires-clause-opened c =
    let q = ap (greatest group_start) c.in-Some.ensures.items in
    let p = greatest_push group_start c.pop.new.self.items c.in-Some.group in
    let u = c.in_ok-operand.ensures.opened.opened in
    omega (arith, q, p, u, c.requires.first)

pub resume_group-requires-clause-first : goal.resume_group-requires-clause-first
resume_group-requires-clause-first c =
    let q = ap (greatest group_start) c.in-Some.ensures.items in
    let p = greatest_push group_start c.pop.new.self.items c.in-Some.group in
    let u = c.in_ok-operand.ensures.opened.opened in
    first_from (max (open_start c.args.self.now) c.args.last.span.start) (group_start c.in-Some.group) c.args.token c.args.tokens.now
    (omega (arith, q, p, u)) c.requires

pub returns-in-Some-clause-parses : goal.returns-in-Some-clause-parses
returns-in-Some-clause-parses c ts end h =
    c.resume_group.ensures.parses ts end
    (closing_parsed ts (from c.args.token c.args.tokens.now) c.apply_down_to.new.self _ c.in-Some.group c.in_ok-operand.operand
    (c.in_ok-operand.ensures.parses ts (from c.args.token c.args.tokens.now) h) c.in_ok-operand.ensures.below c.in-Some.ensures.items refl)

pub returns-in-Some-clause-complete : goal.returns-in-Some-clause-complete
returns-in-Some-clause-complete c own end b =
    c.resume_group.ensures.complete end
    (closing_resumed c.apply_down_to.new.self _ c.in-Some.group c.in_ok-operand.operand.precedence (from c.args.token c.args.tokens.now)
    (c.in_ok-operand.ensures.complete (from c.args.token c.args.tokens.now) (omega (arith, own)) b) own c.in_ok-operand.ensures.below
    c.in-Some.ensures.items)

pub returns-in-None-clause-complete : goal.returns-in-None-clause-complete
returns-in-None-clause-complete c own end b =
    absurd (some_left _ _
    (none_open c.apply_down_to.new.self c.in_ok-operand.operand.precedence (from c.args.token c.args.tokens.now)
    (c.in_ok-operand.ensures.complete (from c.args.token c.args.tokens.now) (omega (arith, own)) b) own c.in_ok-operand.ensures.below
    (search rules)))

pub returns-in-Some-clause-places : goal.returns-in-Some-clause-places
returns-in-Some-clause-places c source h =
    let r = c.apply_down_to.new.self in
    c.resume_group.ensures.places source
    (closing_placed source c.args.token.span.start r _ c.in-Some.group c.in_ok-operand.operand
    (c.in_ok-operand.ensures.places source c.args.token.span.start h) (none_below (waits r) c.in_ok-operand.ensures.below) c.in-Some.ensures.items refl)
