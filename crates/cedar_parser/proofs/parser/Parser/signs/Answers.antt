use Rattle.std.specs.Prelude.{MatchResult}
use Rattle.std.proofs.Common.{◌≤◌}
use Rattle.cedar_parser.specs.Ahead.{TakesNoSign}
use Rattle.cedar_parser.proofs.parser.Parser.signs.Goals as goal
use Rattle.std.proofs.Common.{◌<◌, IfOk, subst, sym}
use Rattle.cedar_parser.specs.Waiting.{StandsOn, sign}
use Rattle.cedar_parser.proofs.ParserSteps.{parser_last}

pub returns-in-Some-clause-counts : goal.returns-in-Some-clause-counts
returns-in-Some-clause-counts c =
    let e = parser_last c.args.self.now c.deref.result.now c.in-Some.operation.now c.deref.ensures.value c.in-Some.ensures.value in
    subst (λ b. IfOk c.signs_before.result (λ n. n < 4 → StandsOn b (sign c.args.op n))) (sym e) c.signs_before.ensures.counts

pub returns-in-Some-clause-complete : goal.returns-in-Some-clause-complete
returns-in-Some-clause-complete c =
    let e = parser_last c.args.self.now c.deref.result.now c.in-Some.operation.now c.deref.ensures.value c.in-Some.ensures.value in
    subst (λ b. MatchResult c.signs_before.result (λ n. 4 ≤ n → TakesNoSign c.args.op b) (λ _. TakesNoSign c.args.op b)) (sym e) c.signs_before.ensures.complete
