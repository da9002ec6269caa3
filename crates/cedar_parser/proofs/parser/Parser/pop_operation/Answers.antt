use Rattle.cedar_parser.proofs.parser.Parser.pop_operation.Goals as goal
use Rattle.std.proofs.Common.{ap, arith, refl}
use Rattle.cedar_terms.specs.Precedences.{precedence_number}
use Rattle.cedar_parser.proofs.ParserSteps.{below_last}

pub returns-then-number-clause-pops : goal.returns-then-number-clause-pops
returns-then-number-clause-pops c = (
  refl,
  below_last c.args.self.now c.args.least c.deref.result.now c.in_ok-last.field-0.now c.deref.ensures.value c.in_ok-last.ensures.value
      (let e = ap precedence_number c.precedence-precedence.ensures in omega (arith, c.if-number.true, c.number.ensures, c.number-2.ensures, e)),
)
