use Rattle.std.proofs.Common.{rules, ◌+◌, ◌<◌, ◌^◌, length, arith}
use Rattle.cedar_extensions.specs.Numbers.{number_of}
use Rattle.cedar_extensions.proofs.Places.{all_read, next_fits, next_is, tens_fit}
use Rattle.cedar_extensions.proofs.digits.number.Goals as goal

pub returns-in_err-tens : goal.returns-in_err-tens
returns-in_err-tens c =
    let fits = tens_fit c.args.digits.now c.loop-digit.digit-index c.loop-digit.number (2 ^ 64) c.requires (omega arith) c.loop-digit.invariant.value in
    search (rules, fits)

pub returns-in_err-number : goal.returns-in_err-number
returns-in_err-number c =
    let fits = next_fits c.args.digits.now c.loop-digit.digit-index c.loop-digit.number (2 ^ 64) c.requires (omega arith) c.loop-digit.invariant.value in
    let sum : number_of c.args.digits.now < 2 ^ 64 → c.in_ok-tens.tens + c.from.result < 2 ^ 64 = λ small. omega (arith, fits small, c.in_ok-tens.ensures, c.from.ensures) in
    search (rules, sum)

pub loop-digit-preserved : goal.loop-digit-preserved
loop-digit-preserved c =
    let next = next_is c.args.digits.now c.loop-digit.digit-index c.loop-digit.number c.requires (omega arith) c.loop-digit.invariant.value in
    record {
      value = omega (arith, next, c.in_ok-tens.ensures, c.in_ok-number.ensures, c.from.ensures);
      bound = omega (arith, c.in_ok-number.ensures);
    }

pub returns : goal.returns
returns c =
    let all = all_read c.args.digits.now c.loop-digit.digit-index (omega arith) in
    (omega (arith, all), omega (arith, all))
