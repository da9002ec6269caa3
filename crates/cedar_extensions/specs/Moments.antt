-- The parts of a moment's text (Cedar's RFC 80).
use Rattle.std.specs.Prelude.{◌≡◌, ℕ, ℤ, ◌+◌, ◌-◌, ◌*◌, ◌<◌, ◌+ℤ◌, ◌-ℤ◌, pos, neg_ℤ, List, Option, Some, None, codes, if◌then◌else◌}
use Rattle.cedar_extensions.specs.Calendar.{IsDate, days_before}
use Rattle.cedar_extensions.specs.Shapes.{field, has_shape}
use Rattle.cedar_extensions.specs.declared.moment.Form.{Form}
use Rattle.cedar_extensions.specs.declared.moment.Form.TheVariants.{Date, Utc, Ahead, Behind, MillisUtc, MillisAhead, MillisBehind}
use Rattle.cedar_extensions.specs.declared.moment.Fields.{Fields}

-- the form of a text: a date alone; or a date, a time without milliseconds or with them, and a zone, which is UTC, ahead of it or behind it
unfoldable pub form_of : List ℕ → Option Form
form_of text =
    if has_shape (codes "0000-00-00") text then Some Date else
    (if has_shape (codes "0000-00-00T00:00:00Z") text then Some Utc else
    (if has_shape (codes "0000-00-00T00:00:00+0000") text then Some Ahead else
    (if has_shape (codes "0000-00-00T00:00:00-0000") text then Some Behind else
    (if has_shape (codes "0000-00-00T00:00:00.000Z") text then Some MillisUtc else
    (if has_shape (codes "0000-00-00T00:00:00.000+0000") text then Some MillisAhead else
    (if has_shape (codes "0000-00-00T00:00:00.000-0000") text then Some MillisBehind else None))))))

-- a number of two digits of the time of day, which is zero in a date alone
abbrev pub time_field : Form → List ℕ → ℕ → ℕ
time_field Date text start = 0
time_field Utc text start = field text start 2
time_field Ahead text start = field text start 2
time_field Behind text start = field text start 2
time_field MillisUtc text start = field text start 2
time_field MillisAhead text start = field text start 2
time_field MillisBehind text start = field text start 2

-- the milliseconds, which are zero where none are written
abbrev pub millisecond_field : Form → List ℕ → ℕ
millisecond_field Date text = 0
millisecond_field Utc text = 0
millisecond_field Ahead text = 0
millisecond_field Behind text = 0
millisecond_field MillisUtc text = field text 20 3
millisecond_field MillisAhead text = field text 20 3
millisecond_field MillisBehind text = field text 20 3

-- a number of two digits of the distance from UTC, so far behind the sign
abbrev pub zone_field : Form → List ℕ → ℕ → ℕ
zone_field Date text start = 0
zone_field Utc text start = 0
zone_field Ahead text start = field text (20 + start) 2
zone_field Behind text start = field text (20 + start) 2
zone_field MillisUtc text start = 0
zone_field MillisAhead text start = field text (24 + start) 2
zone_field MillisBehind text start = field text (24 + start) 2

-- the numbers in a text of this form
abbrev pub fields_of : List ℕ → Form → Fields
fields_of text form = record {
  year = field text 0 4;
  month = field text 5 2;
  day = field text 8 2;
  hour = time_field form text 11;
  minute = time_field form text 14;
  second = time_field form text 17;
  millisecond = millisecond_field form text;
  zone_hours = zone_field form text 0;
  zone_minutes = zone_field form text 2;
}

-- there is such a day, such a time of day, and such a distance from UTC
abbrev pub HasDate : Fields → Type 0
HasDate f = IsDate f.year f.month f.day

abbrev pub HasTime : Fields → Type 0
HasTime f = (f.hour < 24) × (f.minute < 60) × (f.second < 60)

abbrev pub HasZone : Fields → Type 0
HasZone f = (f.zone_hours < 24) × (f.zone_minutes < 60)

-- the milliseconds from the first day of the year 0 on, by the clock of the zone
abbrev pub local_milliseconds : Fields → ℕ
local_milliseconds f = days_before f.year f.month f.day * 86400000 + (((f.hour * 60 + f.minute) * 60 + f.second) * 1000 + f.millisecond)

-- the milliseconds from 1970 on, by the clock of the zone
abbrev pub since_epoch : Fields → ℤ
since_epoch f = pos (local_milliseconds f) -ℤ pos (days_before 1970 1 1 * 86400000)

-- the distance from UTC
abbrev pub zone_milliseconds : Fields → ℕ
zone_milliseconds f = (f.zone_hours * 60 + f.zone_minutes) * 60000

-- the milliseconds from 1970 on, in UTC
abbrev pub milliseconds_of : Form → Fields → ℤ
milliseconds_of Date f = since_epoch f
milliseconds_of Utc f = since_epoch f
milliseconds_of Ahead f = since_epoch f -ℤ pos (zone_milliseconds f)
milliseconds_of Behind f = since_epoch f +ℤ pos (zone_milliseconds f)
milliseconds_of MillisUtc f = since_epoch f
milliseconds_of MillisAhead f = since_epoch f -ℤ pos (zone_milliseconds f)
milliseconds_of MillisBehind f = since_epoch f +ℤ pos (zone_milliseconds f)
