-- Where digits stand in a text of each form.
use Rattle.std.specs.Prelude.{ℕ, ◌+◌, List, ⊤}
use Rattle.cedar_extensions.specs.Shapes.{HasDigits}
use Rattle.cedar_extensions.specs.declared.moment.Form.{Form}
use Rattle.cedar_extensions.specs.declared.moment.Form.TheVariants.{Date, Utc, Ahead, Behind, MillisUtc, MillisAhead, MillisBehind}

-- two digits of the time of day
abbrev pub HasTimeDigits : Form → List ℕ → ℕ → Type 0
HasTimeDigits Date text start = ⊤
HasTimeDigits Utc text start = HasDigits text start 2
HasTimeDigits Ahead text start = HasDigits text start 2
HasTimeDigits Behind text start = HasDigits text start 2
HasTimeDigits MillisUtc text start = HasDigits text start 2
HasTimeDigits MillisAhead text start = HasDigits text start 2
HasTimeDigits MillisBehind text start = HasDigits text start 2

-- three digits of the milliseconds
abbrev pub HasMillisecondDigits : Form → List ℕ → Type 0
HasMillisecondDigits Date text = ⊤
HasMillisecondDigits Utc text = ⊤
HasMillisecondDigits Ahead text = ⊤
HasMillisecondDigits Behind text = ⊤
HasMillisecondDigits MillisUtc text = HasDigits text 20 3
HasMillisecondDigits MillisAhead text = HasDigits text 20 3
HasMillisecondDigits MillisBehind text = HasDigits text 20 3

-- two digits of the distance from UTC, so far behind its sign
abbrev pub HasZoneDigits : Form → List ℕ → ℕ → Type 0
HasZoneDigits Date text start = ⊤
HasZoneDigits Utc text start = ⊤
HasZoneDigits Ahead text start = HasDigits text (20 + start) 2
HasZoneDigits Behind text start = HasDigits text (20 + start) 2
HasZoneDigits MillisUtc text start = ⊤
HasZoneDigits MillisAhead text start = HasDigits text (24 + start) 2
HasZoneDigits MillisBehind text start = HasDigits text (24 + start) 2

-- all of them
pub record HasAllDigits (form : Form) (text : List ℕ) : Type 0 where
  pub year : HasDigits text 0 4
  pub month : HasDigits text 5 2
  pub day : HasDigits text 8 2
  pub hour : HasTimeDigits form text 11
  pub minute : HasTimeDigits form text 14
  pub second : HasTimeDigits form text 17
  pub millisecond : HasMillisecondDigits form text
  pub zone_hours : HasZoneDigits form text 0
  pub zone_minutes : HasZoneDigits form text 2
