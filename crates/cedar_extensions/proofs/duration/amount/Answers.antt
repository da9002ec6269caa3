use Rattle.std.proofs.Common.{sym, arith}
use Rattle.cedar_extensions.specs.Amounts.{unit_name}
use Rattle.cedar_extensions.proofs.AmountTexts.{digits_read, other_word, word_read}
use Rattle.cedar_extensions.proofs.DecimalTexts.{not_nothing}
use Rattle.cedar_extensions.proofs.duration.amount.Goals as goal

pub returns-then-is_empty : goal.returns-then-is_empty
returns-then-is_empty c = λ es s a.
    let d = c.split_digits in
    not_nothing _ c.if-is_empty.ensures (digits_read c.args.unit c.args.text.now d.result.0.now d.result.1.now es s d.ensures.spelled d.ensures.digits d.ensures.all a).2

pub returns-else-eq : goal.returns-else-eq
returns-else-eq c = λ es s a.
    let d = c.split_digits in
    let w = c.split_word in
    let same = word_read c.args.unit c.args.text.now d.result.0.now d.result.1.now w.result.0.now w.result.1.now es s d.ensures.spelled d.ensures.digits d.ensures.all w.ensures.spelled w.ensures.word w.ensures.all a in
    other_word w.result.0.now (unit_name c.args.unit) c.name.result.now same c.name.ensures c.if-eq.ensures
