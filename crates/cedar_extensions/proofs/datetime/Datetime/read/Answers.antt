use Rattle.std.proofs.Common.{rules, ◌≡◌, false, true, sym, subst, ap, ◌∙◌}
use Rattle.std.proofs.lemmas.Bool.{both_ways}
use Rattle.cedar_extensions.specs.Moments.{HasDate, HasTime, HasZone, milliseconds_of}
use Rattle.cedar_extensions.proofs.MomentTexts.{no_date, no_form, no_time, no_zone}
use Rattle.cedar_extensions.proofs.datetime.Datetime.read.Goals as goal

pub returns-in_default : goal.returns-in_default
returns-in_default c = no_form c.args.text.now (sym c.in_default.ensures)

pub returns-then-not-has_date : goal.returns-then-not-has_date
returns-then-not-has_date c =
    let f : c.has_date.result ≡ false = search rules in
    no_date c.args.text.now c.in-Some.form (sym c.in-Some.ensures) (λ h. both_ways c.has_date.result f (c.has_date.ensures.1 (subst HasDate (sym c.read_fields-fields.ensures.exact) h)))

pub returns-then-not-has_time : goal.returns-then-not-has_time
returns-then-not-has_time c =
    let f : c.has_time.result ≡ false = search rules in
    no_time c.args.text.now c.in-Some.form (sym c.in-Some.ensures) (λ h. both_ways c.has_time.result f (c.has_time.ensures.1 (subst HasTime (sym c.read_fields-fields.ensures.exact) h)))

pub returns-then-not-has_zone : goal.returns-then-not-has_zone
returns-then-not-has_zone c =
    let f : c.has_zone.result ≡ false = search rules in
    no_zone c.args.text.now c.in-Some.form (sym c.in-Some.ensures) (λ h. both_ways c.has_zone.result f (c.has_zone.ensures.1 (subst HasZone (sym c.read_fields-fields.ensures.exact) h)))
