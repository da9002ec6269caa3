use Rattle.cedar_parser.proofs.Placed.{wider}
use Rattle.cedar_parser.specs.Places.{IsPlacedUpTo}
use Rattle.std.proofs.Common.{rules}
use Rattle.std.proofs.Common.{arith}
use Rattle.cedar_parser.specs.Complete.{IsAhead}
use Rattle.cedar_parser.proofs.CompleteSteps.{ahead_operand, none_begins, open_goes_on, some_last}
use Rattle.cedar_parser.proofs.parser.Parser.end.Goals as goal
use Rattle.std.proofs.Common.{[], subst, sym, ◌∙◌}
use Rattle.cedar_parser.specs.Meant.{IsParsed}
use Rattle.cedar_parser.proofs.ParserSteps.{ended, none_left}

pub returns-in-None-clause-parses : goal.returns-in-None-clause-parses
returns-in-None-clause-parses c ts h =
    ended ts c.apply_down_to.new.self c.in_ok-operand.operand
    (c.in_ok-operand.ensures.parses ts [] (subst (λ o. IsParsed ts c.args.self.now o []) c.in-Some.is h)) c.in_ok-operand.ensures.below
    (sym c.deref.ensures.value ∙ none_left c.deref.result.now c.in-None.ensures.value)

pub returns-in_default-clause-complete : goal.returns-in_default-clause-complete
returns-in_default-clause-complete c a =
    absurd (none_begins c.args.self.now (subst (λ o. IsAhead c.args.self.now o []) (search rules) a))

pub returns-in-Some-last-clause-complete : goal.returns-in-Some-last-clause-complete
returns-in-Some-last-clause-complete c a =
    let b = ahead_operand c.args.self.now c.in-Some.last [] (subst (λ o. IsAhead c.args.self.now o []) c.in-Some.is a) in
    absurd (open_goes_on c.apply_down_to.new.self c.in_ok-operand.operand.precedence (c.in_ok-operand.ensures.complete [] (omega arith) b)
    c.in_ok-operand.ensures.below (λ e. some_last c.deref.result.now _ c.in-Some-last.ensures.value (c.deref.ensures.value ∙ e)))

pub returns-in-None-clause-places : goal.returns-in-None-clause-places
returns-in-None-clause-places c source to h =
    let p = c.in_ok-operand.ensures.places source to (subst (λ o. IsPlacedUpTo source to c.args.self.now o) c.in-Some.is h) in
    wider 0 to (omega arith) p.2 p.1
