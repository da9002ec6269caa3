use Rattle.std.proofs.Common.{arith}
use Rattle.cedar_extensions.proofs.DecimalTexts.{too_large, too_long}
use Rattle.cedar_extensions.proofs.decimal.DecimalFromStr.from_str.Goals as goal

pub returns-then-fraction-gt4 : goal.returns-then-fraction-gt4
returns-then-fraction-gt4 c = too_long c.args.text.now c.in-Some.is_negative c.in-Some.whole.now c.in-Some.fraction.now c.in-Some.ensures (omega arith)

pub returns-in-None : goal.returns-in-None
returns-in-None c = too_large c.args.text.now c.in-Some.is_negative c.in-Some.whole.now c.in-Some.fraction.now c.in-Some.ensures (omega arith) c.in-None.ensures
