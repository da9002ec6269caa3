use Rattle.cedar_parser.proofs.CompleteTexts.{digits_read, integer_read}
use Rattle.std.proofs.Common.{ap, ◌∙◌, rules}
use Rattle.std.proofs.lemmas.Int.{to_z-of_z}
use Rattle.std.specs.Int.{w64}
use Rattle.cedar_terms.specs.Literals.{LongLit}
use Rattle.cedar_parser.proofs.TokenTexts.{negative_meant}
use Rattle.cedar_parser.proofs.leaves.integer.Goals as goal

pub returns-in-Some-clause-negative : goal.returns-in-Some-clause-negative
returns-in-Some-clause-negative c text sign =
    let v = c.in-Ok.ensures.value.0 in
    let m = negative_meant c.args.digits.text.now c.in-Ok.size c.in-Some.integer text v.0.0 v.1 (c.in-Some.ensures.negative sign) in
    (m.0, ap LongLit (to_z-of_z w64 c.in-Some.integer (search rules)) ∙ m.1)

pub returns-in-None-clause-complete : goal.returns-in-None-clause-complete
returns-in-None-clause-complete c text small large =
    let v = c.in-Ok.ensures.value.0 in
    absurd (integer_read c.args.is_negative c.args.digits.text.now c.in-Ok.size text v.0.0 v.1 small large
    (λ b n. search rules) (λ b n. search rules))

pub returns-in-Err-clause-complete : goal.returns-in-Err-clause-complete
returns-in-Err-clause-complete c text small large = absurd (c.in-Err.ensures.value.0 (digits_read c.args.digits.text.now text large))
