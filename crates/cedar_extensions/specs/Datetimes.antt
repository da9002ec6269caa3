-- What text stands for which moment, and what is asked of moments (Cedar's RFC 80).
use Rattle.std.specs.Prelude.{◌≡◌, ℕ, ℤ, ◌+ℤ◌, ◌*ℤ◌, pos, List, ◌∷◌, ◌++◌, Option, Some, None, Result, MatchResult, FitsSigned, codes}
use Rattle.std.specs.Fmt.{signed_decimal}
use Rattle.std.specs.Int.{int_div_euclid, w64}
use Rattle.cedar_extensions.specs.Moments.{HasDate, HasTime, HasZone, fields_of, form_of, milliseconds_of}
use Rattle.cedar_extensions.specs.declared.moment.Form.{Form}
use Rattle.cedar_extensions.specs.declared.duration.Duration.{Duration}
use Rattle.cedar_extensions.specs.declared.datetime.Datetime.{Datetime}
use Rattle.cedar_extensions.specs.declared.datetime.DatetimeError.{DatetimeError}
use Rattle.cedar_extensions.specs.declared.datetime.DatetimeError.TheVariants.{Malformed, Date, Time, Zone, Overflow}

-- the text stands for the moment so many milliseconds from 1970 on
pub record StandsFor (text : List ℕ) (n : ℤ) : Type 0 where
  pub form : Form
  pub shaped : form_of text ≡ Some form
  pub date : HasDate (fields_of text form)
  pub time : HasTime (fields_of text form)
  pub zone : HasZone (fields_of text form)
  pub value : n ≡ milliseconds_of form (fields_of text form)

-- the text stands for the moment
abbrev pub IsDatetimeText : List ℕ → Datetime → Type 0
IsDatetimeText text d = StandsFor text d.milliseconds

-- why the text stands for none: it has no such form, or there is no such day, time of day or distance from UTC
abbrev pub IsRefusedFor : List ℕ → DatetimeError → Type 0
IsRefusedFor text Malformed = form_of text ≡ None
IsRefusedFor text Date = (form : Form) × (form_of text ≡ Some form) × ¬ (HasDate (fields_of text form))
IsRefusedFor text Time = (form : Form) × (form_of text ≡ Some form) × ¬ (HasTime (fields_of text form))
IsRefusedFor text Zone = (form : Form) × (form_of text ≡ Some form) × ¬ (HasZone (fields_of text form))
IsRefusedFor text Overflow = ⊥

-- the text is read as the moment that it stands for, and refused exactly if it stands for none
abbrev pub Reads : List ℕ → Result Datetime DatetimeError → Type 0
Reads text r = MatchResult r (IsDatetimeText text) (λ e. IsRefusedFor text e × ((d : Datetime) → ¬ (IsDatetimeText text d)))

-- the moment of so many milliseconds, or an overflow exactly if 64 bits do not hold them
abbrev pub IsMoment : ℤ → Result Datetime DatetimeError → Type 0
IsMoment n r = MatchResult r (λ d. (d.milliseconds ≡ n) × FitsSigned w64 n) (λ e. (e ≡ Overflow) × ¬ (FitsSigned w64 n))

-- the same of a duration
abbrev pub IsSpan : ℤ → Result Duration DatetimeError → Type 0
IsSpan n r = MatchResult r (λ d. (d.milliseconds ≡ n) × FitsSigned w64 n) (λ e. (e ≡ Overflow) × ¬ (FitsSigned w64 n))

-- the milliseconds at which the day began
abbrev pub day_start : ℤ → ℤ
day_start n = int_div_euclid n (pos 86400000) *ℤ pos 86400000

-- the call that makes the moment of so many milliseconds
abbrev pub datetime_text : ℤ → List ℕ
datetime_text n = codes "datetime(\"1970-01-01\").offset(duration(\"" ++ signed_decimal n ++ codes "ms\"))"
