use Rattle.cedar_parser.proofs.parser.Parser.takes_conditional.Goals as goal
use Rattle.std.proofs.Common.{◌≤◌, IsTrue, subst, sym}
use Rattle.cedar_parser.specs.Waiting.{least_operand}
use Rattle.cedar_parser.proofs.ParserSteps.{parser_last}

pub returns-in-Some-clause-fits : goal.returns-in-Some-clause-fits
returns-in-Some-clause-fits c =
    let e = parser_last c.args.self.now c.deref.result.now c.in-Some.operation.now c.deref.ensures.value c.in-Some.ensures.value in
    subst (λ b. IsTrue c.takes_conditional.result → least_operand b ≤ 0) (sym e) c.takes_conditional.ensures.fits

pub returns-in-Some-clause-complete : goal.returns-in-Some-clause-complete
returns-in-Some-clause-complete c =
    let e = parser_last c.args.self.now c.deref.result.now c.in-Some.operation.now c.deref.ensures.value c.in-Some.ensures.value in
    subst (λ b. least_operand b ≤ 0 → IsTrue c.takes_conditional.result) (sym e) c.takes_conditional.ensures.complete
