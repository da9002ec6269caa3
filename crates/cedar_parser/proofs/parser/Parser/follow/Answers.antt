use Rattle.cedar_parser.proofs.Placed.{placed_later, step_later}
use Rattle.cedar_parser.specs.Places.{IsPlacedUpTo}
use Rattle.std.proofs.Common.{subst, sym}
use Rattle.std.proofs.Common.{ap}
use Rattle.cedar_parser.specs.Ahead.{closes, least_before}
use Rattle.std.proofs.Common.{arith}
use Rattle.cedar_parser.specs.Meant.{open_groups, waits}
use Rattle.cedar_parser.proofs.AheadSteps.{stuck}
use Rattle.cedar_parser.proofs.CompleteRows.{stays_keeps}
use Rattle.cedar_parser.proofs.parser.Parser.follow.Goals as goal
use Rattle.std.proofs.Common.{◌≡◌, Some, rules}
use Rattle.cedar_parser.specs.Meant.{here, operator}
use Rattle.cedar_parser.specs.Waiting.{operator_of}
use Rattle.cedar_parser.proofs.TakenSteps.{if_both}

pub returns-in-Some-clause-parses : goal.returns-in-Some-clause-parses
returns-in-Some-clause-parses c ts end h =
    let e : operator_of c.args.token.kind ≡ Some (operator c.in-Some.«infix») = search rules in
    if_both _ _ c.«infix».result (c.«infix».ensures.parses ts (here c.args.tokens.now) h e) end

pub returns-in-Some-clause-complete : goal.returns-in-Some-clause-complete
returns-in-Some-clause-complete c end b =
    let e : operator_of c.args.token.kind ≡ Some (operator c.in-Some.«infix») = search rules in
    stays_keeps c.«infix».new.self c.«infix».result c.args.tokens.now end (c.«infix».ensures.complete (here c.args.tokens.now) b e)

pub returns-in_err-member-in-Dot-clause-complete : goal.returns-in_err-member-in-Dot-clause-complete
returns-in_err-member-in-Dot-clause-complete c end b =
    let r = c.args.self.now in
    let e = ap least_before c.in-Dot.is in
    absurd (stuck (open_groups r) (waits r) c.args.token.kind c.args.token.text.now (here c.args.tokens.now) c.args.operand.precedence
    (ap closes c.in-Dot.is) (omega (arith, e, c.in_err-member-in-Dot.ensures.complete)) b.goes_on)

pub returns-in_err-member-in-OpenSquare-clause-complete : goal.returns-in_err-member-in-OpenSquare-clause-complete
returns-in_err-member-in-OpenSquare-clause-complete c end b =
    let r = c.args.self.now in
    let e = ap least_before c.in-OpenSquare.is in
    absurd (stuck (open_groups r) (waits r) c.args.token.kind c.args.token.text.now (here c.args.tokens.now) c.args.operand.precedence
    (ap closes c.in-OpenSquare.is) (omega (arith, e, c.in_err-member-in-OpenSquare.ensures.complete)) b.goes_on)

pub returns-in-Some-clause-places : goal.returns-in-Some-clause-places
returns-in-Some-clause-places c source h =
    step_later source c.args.token.span.start _ c.«infix».new.self c.«infix».result (omega (arith, c.requires.piece, c.requires.before.next))
    (c.«infix».ensures.places source h)

pub returns-in_ok-member-in-Dot-clause-places : goal.returns-in_ok-member-in-Dot-clause-places
returns-in_ok-member-in-Dot-clause-places c source h =
    c.dot.ensures.places source
    (placed_later source c.args.token.span.start _ c.args.self.now (Some c.in_ok-member-in-Dot.field-0)
    (omega (arith, c.requires.piece, c.requires.before.next))
    (subst (λ o. IsPlacedUpTo source c.args.token.span.start c.args.self.now (Some o)) (sym c.in_ok-member-in-Dot.ensures.same.0) h))

pub returns-in_ok-member-in-OpenSquare-clause-places : goal.returns-in_ok-member-in-OpenSquare-clause-places
returns-in_ok-member-in-OpenSquare-clause-places c source h =
    c.bracket.ensures.places source
    (placed_later source c.args.token.span.start _ c.args.self.now (Some c.in_ok-member-in-OpenSquare.field-0)
    (omega (arith, c.requires.piece, c.requires.before.next))
    (subst (λ o. IsPlacedUpTo source c.args.token.span.start c.args.self.now (Some o)) (sym c.in_ok-member-in-OpenSquare.ensures.same.0) h))
