use Rattle.std.proofs.Common.{arith}
use Rattle.cedar_parser.specs.Meant.{open_groups, waits}
use Rattle.cedar_parser.proofs.AheadSteps.{own_closes, stuck}
use Rattle.semantics_grammar.specs.Lexemes.{lexeme}
use Rattle.std.proofs.Common.{◌∷◌}
use Rattle.cedar_parser.proofs.parser.Parser.left.Goals as goal

pub returns-clause-parses : goal.returns-clause-parses
returns-clause-parses c ts rest h = c.in_ok-operand.ensures.parses ts rest h

pub returns-clause-complete : goal.returns-clause-complete
returns-clause-complete c k w ts is b = c.in_ok-operand.ensures.complete (lexeme k w ∷ ts) (omega (arith, is.0)) b

pub returns-then-number-clause-complete : goal.returns-then-number-clause-complete
returns-then-number-clause-complete c k w ts is b =
    let r = c.apply_down_to.new.self in
    let h = c.in_ok-operand.ensures.complete (lexeme k w ∷ ts) (omega (arith, is.0)) b in
    absurd (stuck (open_groups r) (waits r) k w ts c.in_ok-operand.operand.precedence (own_closes k (omega (arith, is.0, is.2)))
    (omega (arith, is.1, c.if-number.true, c.number.ensures, c.number-2.ensures)) h.goes_on)

pub returns-clause-places : goal.returns-clause-places
returns-clause-places c source to h = c.in_ok-operand.ensures.places source to h
