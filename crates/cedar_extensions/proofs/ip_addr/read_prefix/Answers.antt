use Rattle.std.proofs.Common.{rules, ◌≡◌, ◌≤◌, ◌<◌, ◌^◌, ℕ, decimal, length, sym, arith}
use Rattle.std.proofs.lemmas.Bool.{both_ways}
use Rattle.cedar_extensions.specs.Numbers.{number_of}
use Rattle.cedar_extensions.proofs.DecimalTexts.{not_nothing, not_something, nothing, something}
use Rattle.cedar_extensions.proofs.PrefixTexts.{none_if_bad, none_if_large, prefix_is}
use Rattle.cedar_extensions.proofs.ip_addr.read_prefix.Goals as goal
use Rattle.cedar_extensions.proofs.ip_addr.read_prefix.Goals.{then-is_empty-via-then-is_empty, then-is_empty-via-else-is_empty+then-not-is_empty, then-is_empty-via-else-is_empty+else-not-is_empty+then-has_leading_zero}

pub returns-then-is_empty : goal.returns-then-is_empty
returns-then-is_empty c =
    let d = c.split_digits in
    none_if_bad c.args.text.now d.result.0.now d.result.1.now c.args.width (first_of (omega arith, search rules)) d.ensures.spelled d.ensures.digits d.ensures.all (λ some none plain.
    elim c.then-is_empty.branch [
      | then-is_empty-via-then-is_empty w ↦ not_nothing _ w.if-is_empty.ensures some
      | then-is_empty-via-else-is_empty+then-not-is_empty w ↦ not_something (length c.split_digits.result.1.now) (search rules) none
      | then-is_empty-via-else-is_empty+else-not-is_empty+then-has_leading_zero w ↦ plain (w.has_leading_zero.ensures.0 w.if-has_leading_zero.true)
    ])

pub returns-in_err-prefix : goal.returns-in_err-prefix
returns-in_err-prefix c =
    let d = c.split_digits in
    let none = none_if_large c.args.text.now d.result.0.now d.result.1.now c.args.width (first_of (omega arith, search rules)) d.ensures.spelled d.ensures.digits d.ensures.all (λ few. c.in_err-prefix.ensures (first_of (omega arith, omega (arith, c.ranges.width)))) in
    search (rules, none)

pub returns-then-prefix-width : goal.returns-then-prefix-width
returns-then-prefix-width c =
    let d = c.split_digits in
    let fits : number_of d.result.0.now < 2 ^ 64 = omega (arith, c.in_ok-prefix.ensures) in
    let value : number_of d.result.0.now ≡ c.in_ok-prefix.prefix = omega (arith, c.in_ok-prefix.ensures) in
    (prefix_is c.args.text.now d.result.0.now d.result.1.now c.in_ok-prefix.prefix d.ensures.spelled d.ensures.digits (something (length d.result.0.now) c.if-is_empty.ensures) (nothing (length d.result.1.now) (search rules)) (λ z. both_ways _ c.if-has_leading_zero.false (c.has_leading_zero.ensures.1 z)) value (omega arith), omega arith)

pub returns-else-prefix-width : goal.returns-else-prefix-width
returns-else-prefix-width c =
    let d = c.split_digits in
    none_if_large c.args.text.now d.result.0.now d.result.1.now c.args.width (first_of (omega arith, search rules)) d.ensures.spelled d.ensures.digits d.ensures.all (λ few. absurd (omega (arith, c.in_ok-prefix.ensures)))
