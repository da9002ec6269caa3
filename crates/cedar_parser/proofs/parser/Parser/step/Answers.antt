use Rattle.std.proofs.Common.{subst}
use Rattle.cedar_parser.specs.Complete.{IsAhead}
use Rattle.cedar_parser.specs.Meant.{from}
use Rattle.cedar_parser.proofs.CompleteSteps.{ahead_operand}
use Rattle.cedar_parser.proofs.parser.Parser.step.Goals as goal

pub returns-in-Some-clause-complete : goal.returns-in-Some-clause-complete
returns-in-Some-clause-complete c end a =
    let ts = from c.args.token c.args.tokens.now in
    c.follow.ensures.complete end (ahead_operand c.args.self.now c.in-Some.operand ts (subst (λ o. IsAhead c.args.self.now o ts) c.in-Some.is a))

pub returns-in-None-clause-complete : goal.returns-in-None-clause-complete
returns-in-None-clause-complete c end a =
    c.operand.ensures.complete end (subst (λ o. IsAhead c.args.self.now o (from c.args.token c.args.tokens.now)) c.in-None.is a)
