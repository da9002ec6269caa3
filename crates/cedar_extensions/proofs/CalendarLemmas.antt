-- Days of years by division, and of months.
use Rattle.std.proofs.Common.{◌≡◌, ℕ, pos, ◌-ℤ◌, w64, ◌^◌, zero, suc, ◌+◌, ◌-◌, ◌*◌, ◌/◌, ◌%◌, ◌<◌, ◌≤◌, ◌==◌, Bool, true, false, ◌&&◌, ◌||◌, not, cond, refl, sym, ap, ◌∙◌, arith, eqb-true, eq-eqb}
use Rattle.std.proofs.lemmas.Int.{ints}
use mir.Val.{of_z, to_z}
use Rattle.std.proofs.Math.Numerals.{add-one}
use Rattle.std.proofs.lemmas.Bool.{cond_both, eqb-false}
use Rattle.cedar_extensions.specs.Calendar.{days_before, days_of_months, days_of_years, is_leap, month_length}

-- one multiple more, where the number before is one
ceil4 : (y : ℕ) → (suc y + 3) / 4 ≡ (y + 3) / 4 + cond (y % 4 == 0) 1 0
ceil4 y =
    cond_both (y % 4 == 0) 1 0 (λ k. (suc y + 3) / 4 ≡ (y + 3) / 4 + k) (λ e. let z = eqb-true (y % 4) 0 e in omega arith) (λ e. let z = eqb-false (y % 4) 0 e in omega arith)

ceil100 : (y : ℕ) → (suc y + 99) / 100 ≡ (y + 99) / 100 + cond (y % 100 == 0) 1 0
ceil100 y =
    cond_both (y % 100 == 0) 1 0 (λ k. (suc y + 99) / 100 ≡ (y + 99) / 100 + k) (λ e. let z = eqb-true (y % 100) 0 e in omega arith) (λ e. let z = eqb-false (y % 100) 0 e in omega arith)

ceil400 : (y : ℕ) → (suc y + 399) / 400 ≡ (y + 399) / 400 + cond (y % 400 == 0) 1 0
ceil400 y =
    cond_both (y % 400 == 0) 1 0 (λ k. (suc y + 399) / 400 ≡ (y + 399) / 400 + k) (λ e. let z = eqb-true (y % 400) 0 e in omega arith) (λ e. let z = eqb-false (y % 400) 0 e in omega arith)

days_of_year : (a b c : Bool) → (c ≡ true → b ≡ true) → (b ≡ true → a ≡ true) → cond (a && (not b || c)) 366 365 + cond b 1 0 ≡ 365 + cond a 1 0 + cond c 1 0
days_of_year true true true f g = refl
days_of_year true true false f g = refl
days_of_year true false true f g = let e : false ≡ true = f refl in cc
days_of_year true false false f g = refl
days_of_year false true c f g = let e : false ≡ true = g refl in cc
days_of_year false false true f g = let e : false ≡ true = f refl in cc
days_of_year false false false f g = refl

hundredth : (y : ℕ) → (y % 400 == 0) ≡ true → (y % 100 == 0) ≡ true
hundredth y e = let zero_rest = eqb-true (y % 400) 0 e in eq-eqb (y % 100) 0 (omega arith)

fourth : (y : ℕ) → (y % 100 == 0) ≡ true → (y % 4 == 0) ≡ true
fourth y e = let zero_rest = eqb-true (y % 100) 0 e in eq-eqb (y % 4) 0 (omega arith)

-- the days of the years by division
pub years_by_division : (y : ℕ) → days_of_years y + (y + 99) / 100 ≡ 365 * y + (y + 3) / 4 + (y + 399) / 400
unfolding days_of_years
years_by_division zero = refl
years_by_division (suc y) =
    let before = years_by_division y in
    let year = days_of_year (y % 4 == 0) (y % 100 == 0) (y % 400 == 0) (hundredth y) (fourth y) in
    let a = ceil4 y in
    let b = ceil100 y in
    let c = ceil400 y in
    omega arith

pub no_months : (leap : Bool) → days_of_months leap 0 ≡ 0
unfolding days_of_months
no_months leap = refl

pub months_more : (leap : Bool) (m : ℕ) → days_of_months leap (m + 1) ≡ days_of_months leap m + month_length leap (m + 1)
unfolding days_of_months
months_more leap m = rw add-one refl

pub month_is_short : (leap : Bool) (m : ℕ) → month_length leap m ≤ 31
month_is_short leap m =
    cond_both (m == 2) (cond leap 29 28) (cond (m == 4 || m == 6 || m == 9 || m == 11) 30 31) (λ n. n ≤ 31)
    (λ e. cond_both leap 29 28 (λ n. n ≤ 31) (λ h. omega arith) (λ h. omega arith))
    (λ e. cond_both (m == 4 || m == 6 || m == 9 || m == 11) 30 31 (λ n. n ≤ 31) (λ h. omega arith) (λ h. omega arith))

-- the first day of 1970
pub epoch_is : days_before 1970 1 1 ≡ 719528
epoch_is =
    let years = years_by_division 1970 in
    let months = no_months (is_leap 1970) in
    omega arith

-- the number of milliseconds shifted to 1970
pub shifted : (n e : ℕ) → n < 10 ^ 15 → e ≡ 62167219200000 → to_z w64 (of_z w64 (to_z w64 n -ℤ pos 62167219200000)) ≡ pos n -ℤ pos e
shifted n e h is = omega (arith, ints)
