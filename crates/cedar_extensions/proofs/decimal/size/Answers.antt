use Rattle.std.proofs.Common.{rules, ◌*◌, ◌-◌, ◌^◌, length, arith}
use Rattle.cedar_extensions.specs.Numbers.{number_of}
use Rattle.cedar_extensions.proofs.Places.{part_fits}
use Rattle.cedar_extensions.proofs.decimal.size.Goals as goal

pub returns-in_err-number-2 : goal.returns-in_err-number-2
returns-in_err-number-2 c =
    let fits = part_fits (number_of c.args.whole.now * 10 ^ 4) (number_of c.args.fraction.now) (4 - length c.args.fraction.now) (2 ^ 64) in
    search (rules, fits)
