-- The value of digits, from the left.
use Rattle.std.proofs.Common.{◌≡◌, ℕ, zero, suc, ◌+◌, ◌-◌, ◌*◌, ◌^◌, ◌<◌, ◌≤◌, Bool, true, false, List, [], ◌∷◌, length, get_or, take, refl, sym, ap, ◌∙◌, arith}
use Rattle.std.proofs.Math.Dec.{lit≤}
use Rattle.std.proofs.Math.Nat.{le-mul_of_pos_right, one-le-pow}
use Rattle.std.proofs.lemmas.List.{take_all}
use Rattle.std.proofs.lemmas.Bool.Decides.{nat_tests}
use Rattle.std.proofs.lemmas.Int.Digits.{digits_value_more}
use Rattle.std.proofs.lemmas.Str.Parse.{digits_value-take-le}
use Rattle.std.proofs.lemmas.Str.{digit_value_digit}
use Rattle.std.specs.Char.{is_ascii_digit, digit_value}
use Rattle.std.specs.Int.{IsInRange}
use Rattle.std.specs.List.{list_all}
use Rattle.cedar_extensions.specs.Numbers.{number_of}
use Rattle.cedar_extensions.proofs.Splits.{and_left, and_right}

digit_range : (c : ℕ) → is_ascii_digit c ≡ true → IsInRange 48 57 c
digit_range c h = (grind (arith, nat_tests), grind (arith, nat_tests))

-- each digit of digits
pub digit_at : (ds : List ℕ) (i : ℕ) → list_all is_ascii_digit ds ≡ true → i < length ds → IsInRange 48 57 (get_or ds i 0)
digit_at [] i h below = absurd (omega arith)
digit_at (d ∷ ds) zero h below = digit_range d (and_left (is_ascii_digit d) (list_all is_ascii_digit ds) h)
digit_at (d ∷ ds) (suc i) h below = digit_at ds i (and_right (is_ascii_digit d) (list_all is_ascii_digit ds) h) (omega arith)

-- one digit more
pub number_more : (ds : List ℕ) (i : ℕ) → list_all is_ascii_digit ds ≡ true → i < length ds → number_of (take (i + 1) ds) + 48 ≡ number_of (take i ds) * 10 + get_or ds i 0
number_more ds i h below = omega (arith, digits_value_more 10 ds i below, digit_value_digit (get_or ds i 0) (digit_at ds i h below))

-- the value only grows
pub number_grows : (ds : List ℕ) (i : ℕ) → number_of (take i ds) ≤ number_of ds
number_grows ds i = digits_value-take-le 10 ds i (omega arith)

-- the number so far, times ten, is at most the whole number
pub tens_fit : (ds : List ℕ) (i n k : ℕ) → list_all is_ascii_digit ds ≡ true → i < length ds → n ≡ number_of (take i ds) → number_of ds < k → n * 10 < k
tens_fit ds i n k h below e small = omega (arith, number_grows ds (i + 1), number_more ds i h below, digit_at ds i h below, e)

-- and with the next digit
pub next_fits : (ds : List ℕ) (i n k : ℕ) → list_all is_ascii_digit ds ≡ true → i < length ds → n ≡ number_of (take i ds) → number_of ds < k → n * 10 + (get_or ds i 0 - 48) < k
next_fits ds i n k h below e small = omega (arith, number_grows ds (i + 1), number_more ds i h below, digit_at ds i h below, e)

-- the number with the next digit
pub next_is : (ds : List ℕ) (i n : ℕ) → list_all is_ascii_digit ds ≡ true → i < length ds → n ≡ number_of (take i ds) → n * 10 + (get_or ds i 0 - 48) ≡ number_of (take (i + 1) ds)
next_is ds i n h below e = omega (arith, number_more ds i h below, digit_at ds i h below, e)

-- at the end it is the whole number
pub all_read : (ds : List ℕ) (i : ℕ) → length ds ≤ i → number_of (take i ds) ≡ number_of ds
all_read ds i h = ap number_of (take_all i ds h)

-- a summand fits if a sum of its multiple fits
pub part_fits : (a b j k : ℕ) → a + b * 10 ^ j < k → b < k
part_fits a b j k h = omega (arith, le-mul_of_pos_right b (one-le-pow j 10 (lit≤ tt)))
