-- The calendar: years, months and days by the rules of Gregory XIII, carried back to the year 0.
use Rattle.std.specs.Prelude.{◌≡◌, ℕ, zero, suc, ◌+◌, ◌-◌, ◌%◌, ◌≤◌, ◌==◌, Bool, ◌&&◌, ◌||◌, not, if◌then◌else◌}

-- each fourth year is a leap year, but of the hundredth ones only each fourth
abbrev pub is_leap : ℕ → Bool
is_leap y = (y % 4 == 0) && (not (y % 100 == 0) || (y % 400 == 0))

-- the days of a month
abbrev pub month_length : Bool → ℕ → ℕ
month_length leap m =
    if m == 2 then (if leap then 29 else 28) else
    (if m == 4 || m == 6 || m == 9 || m == 11 then 30 else 31)

-- there is such a day
pub record IsDate (year month day : ℕ) : Type 0 where
  pub first_month : 1 ≤ month
  pub last_month : month ≤ 12
  pub first_day : 1 ≤ day
  pub last_day : day ≤ month_length (is_leap year) month

-- the days of the years before this one, from the year 0 on
unfoldable pub days_of_years : ℕ → ℕ
days_of_years zero = 0
days_of_years (suc y) = days_of_years y + (if is_leap y then 366 else 365)

-- the days of the first months of a year, so many
unfoldable pub days_of_months : Bool → ℕ → ℕ
days_of_months leap zero = 0
days_of_months leap (suc m) = days_of_months leap m + month_length leap (suc m)

-- the days before this one, from the first day of the year 0 on
abbrev pub days_before : ℕ → ℕ → ℕ → ℕ
days_before year month day = days_of_years year + days_of_months (is_leap year) (month - 1) + (day - 1)
