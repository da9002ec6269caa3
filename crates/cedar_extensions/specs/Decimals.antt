-- What text stands for which decimal.
use Rattle.std.specs.Prelude.{◌≡◌, ℕ, ℤ, ◌+◌, ◌-◌, ◌*◌, ◌/◌, ◌%◌, ◌^◌, ◌<◌, ◌≤◌, Bool, List, ◌∷◌, ◌++◌, length, FitsSigned, MatchResult, Result, decimal, codes, int_lt, pos, unsigned_abs}
use Rattle.std.specs.Int.{w64}
use Rattle.cedar_extensions.specs.Numbers.{signed, with_sign}
use Rattle.cedar_extensions.specs.Parts.{HasNoParts, HasParts, ten_thousandths_of}
use Rattle.cedar_extensions.specs.declared.decimal.Decimal.{Decimal}
use Rattle.cedar_extensions.specs.declared.decimal.DecimalError.{DecimalError}
use Rattle.cedar_extensions.specs.declared.decimal.DecimalError.TheVariants.{Malformed, TooManyDigits, Overflow}

-- the text stands for so many ten-thousandths
pub record StandsFor (text : List ℕ) (n : ℤ) : Type 0 where
  pub is_negative : Bool
  pub whole : List ℕ
  pub fraction : List ℕ
  pub parts : HasParts text is_negative whole fraction
  pub at_most_four : length fraction ≤ 4
  pub value : n ≡ signed is_negative (ten_thousandths_of whole fraction)

-- the text stands for the decimal
abbrev pub IsDecimalText : List ℕ → Decimal → Type 0
IsDecimalText text d = StandsFor text d.ten_thousandths × FitsSigned w64 d.ten_thousandths

-- why the text stands for none: it has not these parts, or too many digits behind the point, or 64 bits are too few
abbrev pub IsRefusedFor : List ℕ → DecimalError → Type 0
IsRefusedFor text Malformed = HasNoParts text
IsRefusedFor text TooManyDigits = (is_negative : Bool) × (whole : List ℕ) × (fraction : List ℕ) × HasParts text is_negative whole fraction × (4 < length fraction)
IsRefusedFor text Overflow = (n : ℤ) × StandsFor text n × ¬ (FitsSigned w64 n)

-- the text is read as the decimal that it stands for, and refused exactly if it stands for none
abbrev pub Reads : List ℕ → Result Decimal DecimalError → Type 0
Reads text r = MatchResult r (IsDecimalText text) (λ e. IsRefusedFor text e × ((d : Decimal) → ¬ (IsDecimalText text d)))

-- four digits, zeros in front
abbrev pub four_digits : ℕ → List ℕ
four_digits n = decimal (n / 1000) ++ decimal (n / 100 % 10) ++ decimal (n / 10 % 10) ++ decimal (n % 10)

-- the text of so many ten-thousandths, with four digits behind the point
abbrev pub decimal_text : ℤ → List ℕ
decimal_text n = with_sign (int_lt n (pos 0)) (decimal (unsigned_abs n / 10000) ++ codes "." ++ four_digits (unsigned_abs n % 10000))
