-- A text is read as the moment that it stands for.
use Rattle.std.proofs.Common.{◌≡◌, ◌↔◌, ℕ, ◌<◌, true, ◌&&◌, List, Some, nat_le, nat_lt, sym, ap, ◌+◌, ◌*◌, ◌-ℤ◌, pos, codes, arith}
use Rattle.std.proofs.lemmas.Bool.{and_from, and_parts, le-leb, leb-true, lt-ltb, ltb-true}
use Rattle.std.proofs.lemmas.Int.{ints}
use Rattle.std.proofs.NetLemmas.Options.{and_then_some, cond_some}
use Rattle.cedar_extensions.specs.Shapes.{field, has_shape}
use Rattle.cedar_extensions.specs.Calendar.{IsDate, days_before, is_leap, month_length}
use Rattle.cedar_extensions.specs.Datetimes.{IsDatetimeText}
use Rattle.cedar_extensions.specs.Moments.{fields_of, form_of, milliseconds_of}
use Rattle.cedar_extensions.specs.declared.datetime.Datetime.{Datetime}
use Rattle.semantics_extensions.specs.Datetimes.{datetime_in, is_date, is_time, is_zone, moment}

date_sound : (y m d : ℕ) → is_date y m d ≡ true → IsDate y m d
date_sound y m d h =
    let a = and_parts (nat_le 1 m) (nat_le m 12 && (nat_le 1 d && nat_le d (month_length (is_leap y) m))) h in
    let b = and_parts (nat_le m 12) (nat_le 1 d && nat_le d (month_length (is_leap y) m)) a.1 in
    let c = and_parts (nat_le 1 d) (nat_le d (month_length (is_leap y) m)) b.1 in
    record {
      first_month = leb-true 1 m a.0;
      last_month = leb-true m 12 b.0;
      first_day = leb-true 1 d c.0;
      last_day = leb-true d (month_length (is_leap y) m) c.1;
    }

date_passes : (y m d : ℕ) → IsDate y m d → is_date y m d ≡ true
date_passes y m d h =
    and_from (nat_le 1 m) (nat_le m 12 && (nat_le 1 d && nat_le d (month_length (is_leap y) m))) (le-leb 1 m h.first_month)
    (and_from (nat_le m 12) (nat_le 1 d && nat_le d (month_length (is_leap y) m)) (le-leb m 12 h.last_month)
    (and_from (nat_le 1 d) (nat_le d (month_length (is_leap y) m)) (le-leb 1 d h.first_day) (le-leb d (month_length (is_leap y) m) h.last_day)))

time_sound : (h m s : ℕ) → is_time h m s ≡ true → (h < 24) × (m < 60) × (s < 60)
time_sound h m s e =
    let a = and_parts (nat_lt h 24) (nat_lt m 60 && nat_lt s 60) e in
    let b = and_parts (nat_lt m 60) (nat_lt s 60) a.1 in
    (ltb-true h 24 a.0, ltb-true m 60 b.0, ltb-true s 60 b.1)

time_passes : (h m s : ℕ) → (h < 24) × (m < 60) × (s < 60) → is_time h m s ≡ true
time_passes h m s e =
    and_from (nat_lt h 24) (nat_lt m 60 && nat_lt s 60) (lt-ltb h 24 e.0)
    (and_from (nat_lt m 60) (nat_lt s 60) (lt-ltb m 60 e.1) (lt-ltb s 60 e.2))

zone_sound : (h m : ℕ) → is_zone h m ≡ true → (h < 24) × (m < 60)
zone_sound h m e = let a = and_parts (nat_lt h 24) (nat_lt m 60) e in (ltb-true h 24 a.0, ltb-true m 60 a.1)

zone_passes : (h m : ℕ) → (h < 24) × (m < 60) → is_zone h m ≡ true
zone_passes h m e = and_from (nat_lt h 24) (nat_lt m 60) (lt-ltb h 24 e.0) (lt-ltb m 60 e.1)

sound : (t : List ℕ) (d : Datetime) → datetime_in t ≡ Some d → IsDatetimeText t d
unfolding datetime_in
sound t d e =
    and_then_some _ (form_of t) d e λ form shaped g.
    let f = fields_of t form in
    let both = cond_some (is_date f.year f.month f.day && (is_time f.hour f.minute f.second && is_zone f.zone_hours f.zone_minutes)) (moment (milliseconds_of form f)) d g in
    let a = and_parts (is_date f.year f.month f.day) (is_time f.hour f.minute f.second && is_zone f.zone_hours f.zone_minutes) both.0 in
    let b = and_parts (is_time f.hour f.minute f.second) (is_zone f.zone_hours f.zone_minutes) a.1 in
    record {
      form = form;
      shaped = shaped;
      date = date_sound f.year f.month f.day a.0;
      time = time_sound f.hour f.minute f.second b.0;
      zone = zone_sound f.zone_hours f.zone_minutes b.1;
      value = sym (ap (λ x. x.milliseconds) both.1);
    }

complete : (t : List ℕ) (d : Datetime) → IsDatetimeText t d → datetime_in t ≡ Some d
unfolding datetime_in
complete t d h =
    let f = fields_of t h.form in
    rw (h.shaped, date_passes f.year f.month f.day h.date, time_passes f.hour f.minute f.second h.time, zone_passes f.zone_hours f.zone_minutes h.zone)
    (ap (λ n. Some (moment n)) (sym h.value))

pub datetime_exact : (t : List ℕ) (d : Datetime) → (datetime_in t ≡ Some d) ↔ IsDatetimeText t d
datetime_exact t d = (sound t d, complete t d)

no_distance : (n : ℕ) → pos (n * 86400000 + (((0 * 60 + 0) * 60 + 0) * 1000 + 0)) -ℤ pos (n * 86400000) ≡ pos 0
no_distance n = grind (arith, ints)

-- the first day of 1970 is the moment zero
pub epoch : datetime_in (codes "1970-01-01") ≡ Some (moment (pos 0))
unfolding datetime_in form_of has_shape field
epoch = ap (λ n. Some (moment n)) (no_distance (days_before 1970 1 1))
