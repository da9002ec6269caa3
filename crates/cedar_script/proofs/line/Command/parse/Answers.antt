use Rattle.std.proofs.lemmas.Result.{IfOk-weaker}
use Rattle.cedar_script.specs.CommandWords.{Reads}
use Rattle.cedar_script.proofs.Reading.{asked_by_words, asked_with_one, first_word}
use Rattle.cedar_script.proofs.line.Command.parse.Goals as goal

pub returns-in_default-as_bytes-clause-reads : goal.returns-in_default-as_bytes-clause-reads
returns-in_default-as_bytes-clause-reads c =
    let text = c.args.text.now in
    let first = first_word text (c.in-Some.first, c.in-Some.rest) c.in-Some.ensures.cases in
    IfOk-weaker c.parse_with_one.result _ (λ command. Reads text command)
    (λ command h. asked_with_one text _ _ command first (c.is_word.ensures c.if-is_word.true) h) c.parse_with_one.ensures.spelled

pub returns-in_default-2-clause-reads : goal.returns-in_default-2-clause-reads
returns-in_default-2-clause-reads c =
    let text = c.args.text.now in
    let first = first_word text (c.in-Some.first, c.in-Some.rest) c.in-Some.ensures.cases in
    IfOk-weaker c.parse_each.result _ (λ command. Reads text command) (λ command h. asked_by_words text _ c.in-Some.rest.now command first h) c.parse_each.ensures.spelled
