use Rattle.cedar_parser.proofs.Placed.{open_later, wait_placed}
use Rattle.cedar_parser.specs.Places.{none_placed}
use Rattle.cedar_parser.specs.declared.operand.Operation.TheVariants as operations
use Rattle.cedar_parser.proofs.CompleteSteps.{sign_pushed, sign_refused}
use Rattle.cedar_parser.proofs.parser.Parser.prefix.Goals as goal
use Rattle.std.proofs.Common.{arith, refl}
use Rattle.cedar_parser.proofs.GroupSteps.{sign_step}

pub returns-clause-parses : goal.returns-clause-parses
returns-clause-parses c ts rest h is =
    let few = c.if-before-gt3.false in
    sign_step ts rest c.args.self.now _ c.args.op c.args.token.span.start c.in_ok-before.before c.args.token h is
    (c.in_ok-before.ensures.counts (omega (arith, few))) (omega (arith, few)) c.in_ok-push.ensures.items refl refl

pub returns-clause-complete : goal.returns-clause-complete
returns-clause-complete c rest a is =
    let few = c.if-before-gt3.false in
    sign_pushed c.args.self.now _ c.args.op c.args.token.span.start c.in_ok-before.before c.args.token rest a is
    (c.in_ok-before.ensures.counts (omega (arith, few))) c.in_ok-push.ensures.items refl

pub returns-then-before-gt3-clause-complete : goal.returns-then-before-gt3-clause-complete
returns-then-before-gt3-clause-complete c rest a is =
    let many = c.if-before-gt3.true in
    absurd (sign_refused c.args.self.now c.args.op c.args.token rest a is (c.in_ok-before.ensures.complete (omega (arith, many))))

pub returns-in_err-before-clause-complete : goal.returns-in_err-before-clause-complete
returns-in_err-before-clause-complete c rest a is =
    absurd (sign_refused c.args.self.now c.args.op c.args.token rest a is c.in_err-before.ensures.complete)

pub returns-clause-places : goal.returns-clause-places
returns-clause-places c fits source h =
    let at = c.args.token.span.start in
    let to = c.args.token.span.stop in
    wait_placed source to to c.args.self.now _ (operations.Prefix c.args.op at c.in_ok-before.before)
    (open_later source at at at to c.args.self.now (omega arith) fits h) c.in_ok-push.ensures.items refl refl none_placed fits
