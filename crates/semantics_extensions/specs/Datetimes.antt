-- What a text is read as as a moment.
use Rattle.std.specs.Prelude.{ℕ, ℤ, Bool, ◌&&◌, List, nat_le, nat_lt, Option, Some, None, option_and_then, if◌then◌else◌}
use Rattle.cedar_extensions.specs.Calendar.{is_leap, month_length}
use Rattle.cedar_extensions.specs.Moments.{fields_of, form_of, milliseconds_of}
use Rattle.cedar_extensions.specs.declared.datetime.Datetime.{Datetime}

-- whether there is such a day
abbrev pub is_date : ℕ → ℕ → ℕ → Bool
is_date year month day =
    nat_le 1 month && (nat_le month 12
    && (nat_le 1 day && nat_le day (month_length (is_leap year) month)))

-- whether there is such a time of day
abbrev pub is_time : ℕ → ℕ → ℕ → Bool
is_time hour minute second = nat_lt hour 24 && (nat_lt minute 60 && nat_lt second 60)

-- whether there is such a distance from UTC
abbrev pub is_zone : ℕ → ℕ → Bool
is_zone hours minutes = nat_lt hours 24 && nat_lt minutes 60

-- the moment of so many milliseconds
abbrev pub moment : ℤ → Datetime
moment n = record { milliseconds = n }

-- a date, or a date, a time and a zone
unfoldable pub datetime_in : List ℕ → Option Datetime
datetime_in text =
    option_and_then (λ form.
    let f = fields_of text form in
    if is_date f.year f.month f.day
    && (is_time f.hour f.minute f.second && is_zone f.zone_hours f.zone_minutes)
    then Some (moment (milliseconds_of form f)) else None)
    (form_of text)
