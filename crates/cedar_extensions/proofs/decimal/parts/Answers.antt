use Rattle.std.proofs.Common.{rules, sym, ◌∙◌, ap, length, arith}
use Rattle.cedar_extensions.proofs.DecimalTexts.{parts_read, parts_split, no_point, not_nothing, not_something, nothing_empty}
use Rattle.cedar_extensions.proofs.decimal.parts.Goals as goal
use Rattle.cedar_extensions.proofs.decimal.parts.Goals.{then-is_empty-via-then-is_empty, then-is_empty-via-else-is_empty+then-is_empty-2, then-is_empty-via-else-is_empty+else-is_empty-2+then-not-is_empty}

pub returns-in_default : goal.returns-in_default
returns-in_default c = λ n w f h.
    let s = c.split_sign-is_negative in
    let d = c.split_digits in
    let read = parts_split c.args.text.now s.result.1.now d.result.1.now d.result.0.now s.result.0 (sym c.as_bytes.ensures.value ∙ s.ensures.spelled) s.ensures.plain d.ensures.spelled d.ensures.digits d.ensures.all n w f h in
    no_point f d.result.1.now read.2 c.in_default.ensures

pub returns-then-is_empty : goal.returns-then-is_empty
returns-then-is_empty c = λ n w f h.
    let s = c.split_sign-is_negative in
    let d = c.split_digits in
    let e = c.split_digits-2 in
    let read = parts_read c.args.text.now s.result.1.now d.result.1.now c.in-Some.rest.now e.result.1.now d.result.0.now e.result.0.now s.result.0 (sym c.as_bytes.ensures.value ∙ s.ensures.spelled) s.ensures.plain d.ensures.spelled d.ensures.digits d.ensures.all c.in-Some.ensures e.ensures.spelled e.ensures.digits e.ensures.all n w f h in
    let some = nothing_empty w d.result.0.now f e.result.0.now e.result.1.now h.whole_part h.fraction_part read.1 read.2 read.3 in
    elim c.then-is_empty.branch [
      | then-is_empty-via-then-is_empty w ↦ not_nothing _ w.if-is_empty.ensures some.0
      | then-is_empty-via-else-is_empty+then-is_empty-2 w ↦ not_nothing _ w.if-is_empty-2.ensures some.1
      | then-is_empty-via-else-is_empty+else-is_empty-2+then-not-is_empty w ↦ not_something (length c.split_digits-2.result.1.now) (search rules) some.2
    ]
