use Rattle.std.proofs.Common.{rules}
use Rattle.cedar_extensions.specs.AmountReads.{Descends}
use Rattle.cedar_extensions.proofs.AmountTexts.{added_up, passed}
use Rattle.cedar_extensions.proofs.duration.+amounts.Goals as goal

pub returns-in-None : goal.returns-in-None
returns-in-None t c = passed c.args.units.now c.in-Some.unit.now c.in-Some.later.now c.args.text.now c.amounts.result c.in-Some.ensures.cases.0 c.in-None.ensures c.amounts.ensures

pub returns-in-Some-amount : goal.returns-in-Some-amount
returns-in-Some-amount t c =
    let down : Descends c.args.units.now = search rules in
    let amount = c.in-Some-amount in
    added_up c.args.units.now c.in-Some.unit.now c.in-Some.later.now c.args.text.now amount.digits.now amount.rest.now c.amounts-in-Some-amount.result c.add.result c.in-Some.ensures.cases.0 down amount.ensures c.amounts-in-Some-amount.ensures c.add.ensures
