-- The digits in a text of each form, and why a text stands for no moment.
use Rattle.std.proofs.Common.{◌≡◌, ℕ, ℤ, zero, suc, ◌+◌, ◌≤◌, ◌==◌, ◌⊎◌, Bool, true, false, cond, List, [], ◌∷◌, length, take, drop, Option, Some, None, codes, refl, sym, ap, subst, ◌∙◌, inl, inr, ⊎_elim, arith, lit≤}
use Rattle.std.proofs.lemmas.Bool.{and_from, and_parts}
use Rattle.std.proofs.lemmas.Option.{same_Some}
use Rattle.std.specs.Char.{is_ascii_digit}
use Rattle.std.specs.List.{list_all}
use Rattle.cedar_extensions.specs.Shapes.{HasDigits, has_shape, is_like}
use Rattle.cedar_extensions.specs.FieldReads.{HasAllDigits, HasMillisecondDigits, HasTimeDigits, HasZoneDigits}
use Rattle.cedar_extensions.specs.Moments.{HasDate, HasTime, HasZone, fields_of, form_of, milliseconds_of}
use Rattle.cedar_extensions.specs.Datetimes.{IsDatetimeText, IsRefusedFor, StandsFor}
use Rattle.cedar_extensions.specs.declared.moment.Form.{Form}
use Rattle.cedar_extensions.specs.declared.moment.Form.TheVariants as forms
use Rattle.cedar_extensions.specs.declared.datetime.Datetime.{Datetime}
use Rattle.cedar_extensions.specs.declared.datetime.DatetimeError.{DatetimeError}
use Rattle.cedar_extensions.specs.declared.datetime.DatetimeError.TheVariants.{Malformed, Date, Time, Zone, Overflow}

never : false ≡ true → ⊥
never e = cc

-- a text is as long as its shape
shape_length : (ps cs : List ℕ) → has_shape ps cs ≡ true → length ps ≡ length cs
unfolding has_shape
shape_length [] [] h = refl
shape_length [] (c ∷ cs) h = absurd (never h)
shape_length (p ∷ ps) [] h = absurd (never h)
shape_length (p ∷ ps) (c ∷ cs) h = ap suc (shape_length ps cs (and_parts (is_like p c) (has_shape ps cs) h).1)

-- a part of a text has the same part of its shape
shape_take : (k : ℕ) (ps cs : List ℕ) → has_shape ps cs ≡ true → has_shape (take k ps) (take k cs) ≡ true
unfolding has_shape
shape_take zero ps cs h = refl
shape_take (suc k) [] [] h = refl
shape_take (suc k) [] (c ∷ cs) h = absurd (never h)
shape_take (suc k) (p ∷ ps) [] h = absurd (never h)
shape_take (suc k) (p ∷ ps) (c ∷ cs) h =
    let both = and_parts (is_like p c) (has_shape ps cs) h in
    and_from (is_like p c) (has_shape (take k ps) (take k cs)) both.0 (shape_take k ps cs both.1)

shape_drop : (k : ℕ) (ps cs : List ℕ) → has_shape ps cs ≡ true → has_shape (drop k ps) (drop k cs) ≡ true
unfolding has_shape
shape_drop zero ps cs h = h
shape_drop (suc k) [] [] h = refl
shape_drop (suc k) [] (c ∷ cs) h = absurd (never h)
shape_drop (suc k) (p ∷ ps) [] h = absurd (never h)
shape_drop (suc k) (p ∷ ps) (c ∷ cs) h = shape_drop k ps cs (and_parts (is_like p c) (has_shape ps cs) h).1

chosen : (b x y : Bool) → b ≡ true → cond b x y ≡ true → x ≡ true
chosen true x y e h = h
chosen false x y e h = absurd (never e)

-- a shape of digits is one of digits
shape_digits : (ps cs : List ℕ) → has_shape ps cs ≡ true → list_all (λ p. p == 48) ps ≡ true → list_all is_ascii_digit cs ≡ true
unfolding has_shape
shape_digits [] [] h k = refl
shape_digits [] (c ∷ cs) h k = absurd (never h)
shape_digits (p ∷ ps) [] h k = absurd (never h)
shape_digits (p ∷ ps) (c ∷ cs) h k =
    let both = and_parts (is_like p c) (has_shape ps cs) h in
    let zeros = and_parts (p == 48) (list_all (λ q. q == 48) ps) k in
    and_from (is_ascii_digit c) (list_all is_ascii_digit cs) (chosen (p == 48) (is_ascii_digit c) (c == p) zeros.0 both.0) (shape_digits ps cs both.1 zeros.1)

digits_in : (ps cs : List ℕ) (start count : ℕ) → has_shape ps cs ≡ true → start + count ≤ length ps → list_all (λ p. p == 48) (take count (drop start ps)) ≡ true → HasDigits cs start count
digits_in ps cs start count h within zeros = (
  subst (λ n. start + count ≤ n) (shape_length ps cs h) within,
  shape_digits (take count (drop start ps)) (take count (drop start cs)) (shape_take count (drop start ps) (drop start cs) (shape_drop start ps cs h)) zeros,
)

-- the shape of each form
abbrev shape_of : Form → List ℕ
shape_of forms.Date = codes "0000-00-00"
shape_of forms.Utc = codes "0000-00-00T00:00:00Z"
shape_of forms.Ahead = codes "0000-00-00T00:00:00+0000"
shape_of forms.Behind = codes "0000-00-00T00:00:00-0000"
shape_of forms.MillisUtc = codes "0000-00-00T00:00:00.000Z"
shape_of forms.MillisAhead = codes "0000-00-00T00:00:00.000+0000"
shape_of forms.MillisBehind = codes "0000-00-00T00:00:00.000-0000"

this_or_later : (b : Bool) (x form : Form) (rest : Option Form) → cond b (Some x) rest ≡ Some form → ((b ≡ true) × (x ≡ form)) ⊎ (rest ≡ Some form)
this_or_later true x form rest e = inl (refl, same_Some x form e)
this_or_later false x form rest e = inr e

found : (text : List ℕ) (x form : Form) → (has_shape (shape_of x) text ≡ true) × (x ≡ form) → has_shape (shape_of form) text ≡ true
found text x form h = subst (λ f. has_shape (shape_of f) text ≡ true) h.1 h.0

nothing_left : (form : Form) → ◌≡◌ {A = Option Form} None (Some form) → ⊥
nothing_left form e = cc

-- a text has the shape of its form
form_shape : (text : List ℕ) (form : Form) → form_of text ≡ Some form → has_shape (shape_of form) text ≡ true
unfolding form_of
form_shape text form e =
    ⊎_elim (found text forms.Date form) (λ e1.
    ⊎_elim (found text forms.Utc form) (λ e2.
    ⊎_elim (found text forms.Ahead form) (λ e3.
    ⊎_elim (found text forms.Behind form) (λ e4.
    ⊎_elim (found text forms.MillisUtc form) (λ e5.
    ⊎_elim (found text forms.MillisAhead form) (λ e6.
    ⊎_elim (found text forms.MillisBehind form) (λ e7. absurd (nothing_left form e7))
    (this_or_later (has_shape (shape_of forms.MillisBehind) text) forms.MillisBehind form _ e6))
    (this_or_later (has_shape (shape_of forms.MillisAhead) text) forms.MillisAhead form _ e5))
    (this_or_later (has_shape (shape_of forms.MillisUtc) text) forms.MillisUtc form _ e4))
    (this_or_later (has_shape (shape_of forms.Behind) text) forms.Behind form _ e3))
    (this_or_later (has_shape (shape_of forms.Ahead) text) forms.Ahead form _ e2))
    (this_or_later (has_shape (shape_of forms.Utc) text) forms.Utc form _ e1))
    (this_or_later (has_shape (shape_of forms.Date) text) forms.Date form _ e)

date_digits : (form : Form) (text : List ℕ) → has_shape (shape_of form) text ≡ true → HasDigits text 0 4 × HasDigits text 5 2 × HasDigits text 8 2
date_digits forms.Date text h = (digits_in (shape_of forms.Date) text 0 4 h (lit≤ tt) refl, digits_in (shape_of forms.Date) text 5 2 h (lit≤ tt) refl, digits_in (shape_of forms.Date) text 8 2 h (lit≤ tt) refl)
date_digits forms.Utc text h = (digits_in (shape_of forms.Utc) text 0 4 h (lit≤ tt) refl, digits_in (shape_of forms.Utc) text 5 2 h (lit≤ tt) refl, digits_in (shape_of forms.Utc) text 8 2 h (lit≤ tt) refl)
date_digits forms.Ahead text h = (digits_in (shape_of forms.Ahead) text 0 4 h (lit≤ tt) refl, digits_in (shape_of forms.Ahead) text 5 2 h (lit≤ tt) refl, digits_in (shape_of forms.Ahead) text 8 2 h (lit≤ tt) refl)
date_digits forms.Behind text h = (digits_in (shape_of forms.Behind) text 0 4 h (lit≤ tt) refl, digits_in (shape_of forms.Behind) text 5 2 h (lit≤ tt) refl, digits_in (shape_of forms.Behind) text 8 2 h (lit≤ tt) refl)
date_digits forms.MillisUtc text h = (digits_in (shape_of forms.MillisUtc) text 0 4 h (lit≤ tt) refl, digits_in (shape_of forms.MillisUtc) text 5 2 h (lit≤ tt) refl, digits_in (shape_of forms.MillisUtc) text 8 2 h (lit≤ tt) refl)
date_digits forms.MillisAhead text h = (digits_in (shape_of forms.MillisAhead) text 0 4 h (lit≤ tt) refl, digits_in (shape_of forms.MillisAhead) text 5 2 h (lit≤ tt) refl, digits_in (shape_of forms.MillisAhead) text 8 2 h (lit≤ tt) refl)
date_digits forms.MillisBehind text h = (digits_in (shape_of forms.MillisBehind) text 0 4 h (lit≤ tt) refl, digits_in (shape_of forms.MillisBehind) text 5 2 h (lit≤ tt) refl, digits_in (shape_of forms.MillisBehind) text 8 2 h (lit≤ tt) refl)

time_digits : (form : Form) (text : List ℕ) → has_shape (shape_of form) text ≡ true → HasTimeDigits form text 11 × HasTimeDigits form text 14 × HasTimeDigits form text 17
time_digits forms.Date text h = (tt, tt, tt)
time_digits forms.Utc text h = (digits_in (shape_of forms.Utc) text 11 2 h (lit≤ tt) refl, digits_in (shape_of forms.Utc) text 14 2 h (lit≤ tt) refl, digits_in (shape_of forms.Utc) text 17 2 h (lit≤ tt) refl)
time_digits forms.Ahead text h = (digits_in (shape_of forms.Ahead) text 11 2 h (lit≤ tt) refl, digits_in (shape_of forms.Ahead) text 14 2 h (lit≤ tt) refl, digits_in (shape_of forms.Ahead) text 17 2 h (lit≤ tt) refl)
time_digits forms.Behind text h = (digits_in (shape_of forms.Behind) text 11 2 h (lit≤ tt) refl, digits_in (shape_of forms.Behind) text 14 2 h (lit≤ tt) refl, digits_in (shape_of forms.Behind) text 17 2 h (lit≤ tt) refl)
time_digits forms.MillisUtc text h = (digits_in (shape_of forms.MillisUtc) text 11 2 h (lit≤ tt) refl, digits_in (shape_of forms.MillisUtc) text 14 2 h (lit≤ tt) refl, digits_in (shape_of forms.MillisUtc) text 17 2 h (lit≤ tt) refl)
time_digits forms.MillisAhead text h = (digits_in (shape_of forms.MillisAhead) text 11 2 h (lit≤ tt) refl, digits_in (shape_of forms.MillisAhead) text 14 2 h (lit≤ tt) refl, digits_in (shape_of forms.MillisAhead) text 17 2 h (lit≤ tt) refl)
time_digits forms.MillisBehind text h = (digits_in (shape_of forms.MillisBehind) text 11 2 h (lit≤ tt) refl, digits_in (shape_of forms.MillisBehind) text 14 2 h (lit≤ tt) refl, digits_in (shape_of forms.MillisBehind) text 17 2 h (lit≤ tt) refl)

millisecond_digits : (form : Form) (text : List ℕ) → has_shape (shape_of form) text ≡ true → HasMillisecondDigits form text
millisecond_digits forms.Date text h = tt
millisecond_digits forms.Utc text h = tt
millisecond_digits forms.Ahead text h = tt
millisecond_digits forms.Behind text h = tt
millisecond_digits forms.MillisUtc text h = digits_in (shape_of forms.MillisUtc) text 20 3 h (lit≤ tt) refl
millisecond_digits forms.MillisAhead text h = digits_in (shape_of forms.MillisAhead) text 20 3 h (lit≤ tt) refl
millisecond_digits forms.MillisBehind text h = digits_in (shape_of forms.MillisBehind) text 20 3 h (lit≤ tt) refl

zone_digits : (form : Form) (text : List ℕ) → has_shape (shape_of form) text ≡ true → HasZoneDigits form text 0 × HasZoneDigits form text 2
zone_digits forms.Date text h = (tt, tt)
zone_digits forms.Utc text h = (tt, tt)
zone_digits forms.Ahead text h = (digits_in (shape_of forms.Ahead) text 20 2 h (lit≤ tt) refl, digits_in (shape_of forms.Ahead) text 22 2 h (lit≤ tt) refl)
zone_digits forms.Behind text h = (digits_in (shape_of forms.Behind) text 20 2 h (lit≤ tt) refl, digits_in (shape_of forms.Behind) text 22 2 h (lit≤ tt) refl)
zone_digits forms.MillisUtc text h = (tt, tt)
zone_digits forms.MillisAhead text h = (digits_in (shape_of forms.MillisAhead) text 24 2 h (lit≤ tt) refl, digits_in (shape_of forms.MillisAhead) text 26 2 h (lit≤ tt) refl)
zone_digits forms.MillisBehind text h = (digits_in (shape_of forms.MillisBehind) text 24 2 h (lit≤ tt) refl, digits_in (shape_of forms.MillisBehind) text 26 2 h (lit≤ tt) refl)

-- all the digits of a text stand where its form has them
pub all_digits : (text : List ℕ) (form : Form) → form_of text ≡ Some form → HasAllDigits form text
all_digits text form e =
    let shape = form_shape text form e in
    let date = date_digits form text shape in
    let time = time_digits form text shape in
    let zone = zone_digits form text shape in
    record {
      year = date.0;
      month = date.1;
      day = date.2;
      hour = time.0;
      minute = time.1;
      second = time.2;
      millisecond = millisecond_digits form text shape;
      zone_hours = zone.0;
      zone_minutes = zone.1;
    }

abbrev IsRefused : List ℕ → DatetimeError → Type 0
IsRefused t e = IsRefusedFor t e × ((d : Datetime) → IsDatetimeText t d → ⊥)

-- a text of no form stands for nothing
pub no_form : (t : List ℕ) → form_of t ≡ None → IsRefused t Malformed
no_form t e = (e, λ d stands. nothing_left stands.form (sym e ∙ stands.shaped))

same_form : (t : List ℕ) (x y : Form) → form_of t ≡ Some x → form_of t ≡ Some y → x ≡ y
same_form t x y h k = same_Some x y (sym h ∙ k)

pub no_date : (t : List ℕ) (form : Form) → form_of t ≡ Some form → (HasDate (fields_of t form) → ⊥) → IsRefused t Date
no_date t form h none = ((form, h, none), λ d stands. none (subst (λ f. HasDate (fields_of t f)) (same_form t stands.form form stands.shaped h) stands.date))

pub no_time : (t : List ℕ) (form : Form) → form_of t ≡ Some form → (HasTime (fields_of t form) → ⊥) → IsRefused t Time
no_time t form h none = ((form, h, none), λ d stands. none (subst (λ f. HasTime (fields_of t f)) (same_form t stands.form form stands.shaped h) stands.time))

pub no_zone : (t : List ℕ) (form : Form) → form_of t ≡ Some form → (HasZone (fields_of t form) → ⊥) → IsRefused t Zone
no_zone t form h none = ((form, h, none), λ d stands. none (subst (λ f. HasZone (fields_of t f)) (same_form t stands.form form stands.shaped h) stands.zone))

-- a text stands for one moment at most
pub unique : (t : List ℕ) (m n : ℤ) → StandsFor t m → StandsFor t n → m ≡ n
unique t m n h k = h.value ∙ ap (λ f. milliseconds_of f (fields_of t f)) (same_form t h.form k.form h.shaped k.shaped) ∙ sym k.value

-- a text of the last shape alone, and one of none
pub last_form : (text : List ℕ) → has_shape (codes "0000-00-00") text ≡ false → has_shape (codes "0000-00-00T00:00:00Z") text ≡ false → has_shape (codes "0000-00-00T00:00:00+0000") text ≡ false → has_shape (codes "0000-00-00T00:00:00-0000") text ≡ false → has_shape (codes "0000-00-00T00:00:00.000Z") text ≡ false → has_shape (codes "0000-00-00T00:00:00.000+0000") text ≡ false → has_shape (codes "0000-00-00T00:00:00.000-0000") text ≡ true → form_of text ≡ Some forms.MillisBehind
unfolding form_of
last_form text a b c d e f g = rw (a, b, c, d, e, f, g) refl

pub formless : (text : List ℕ) → has_shape (codes "0000-00-00") text ≡ false → has_shape (codes "0000-00-00T00:00:00Z") text ≡ false → has_shape (codes "0000-00-00T00:00:00+0000") text ≡ false → has_shape (codes "0000-00-00T00:00:00-0000") text ≡ false → has_shape (codes "0000-00-00T00:00:00.000Z") text ≡ false → has_shape (codes "0000-00-00T00:00:00.000+0000") text ≡ false → has_shape (codes "0000-00-00T00:00:00.000-0000") text ≡ false → form_of text ≡ None
unfolding form_of
formless text a b c d e f g = rw (a, b, c, d, e, f, g) refl
