-- Numbers in texts: a sign and decimal digits.
use Rattle.std.specs.Prelude.{◌≡◌, ℕ, ℤ, pos, neg_ℤ, ◌<◌, Bool, true, false, not, List, [], ◌∷◌, length}
use Rattle.std.specs.Char.{is_ascii_digit}
use Rattle.std.specs.List.{list_all}
use Rattle.std.specs.Str.Parse.{digits_value}

-- one decimal digit or more, and nothing else
abbrev pub IsDigits : List ℕ → Type 0
IsDigits ds = (0 < length ds) × (list_all is_ascii_digit ds ≡ true)

-- the number that the digits write
abbrev pub number_of : List ℕ → ℕ
number_of ds = digits_value 10 ds

-- a text behind a minus sign, or without one
abbrev pub with_sign : Bool → List ℕ → List ℕ
with_sign true text = 45 ∷ text
with_sign false text = text

-- a number with its sign
abbrev pub signed : Bool → ℕ → ℤ
signed true n = neg_ℤ (pos n)
signed false n = pos n

-- the text has a first byte, which passes the test
abbrev pub begins_with : (ℕ → Bool) → List ℕ → Bool
begins_with p [] = false
begins_with p (c ∷ cs) = p c

-- a byte that is no digit
abbrev pub is_no_digit : ℕ → Bool
is_no_digit c = not (is_ascii_digit c)
