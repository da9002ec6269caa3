-- What a text is read as as a decimal.
use Rattle.std.specs.Prelude.{ℕ, ◌&&◌, List, [], ◌∷◌, length, ◌==◌, nat_le, Option, Some, None, option_and_then, if◌then◌else◌}
use Rattle.cedar_extensions.specs.Parts.{ten_thousandths_of}
use Rattle.cedar_extensions.specs.declared.decimal.Decimal.{Decimal}
use Rattle.semantics_extensions.specs.Searches.{first_cut}
use Rattle.semantics_extensions.specs.Signs.{are_digits, signed_in, of_long}

-- the ten-thousandths of digits and of what stands behind them, a point and one to four digits
abbrev pub ten_thousandths_at : List ℕ → List ℕ → Option ℕ
ten_thousandths_at whole [] = None
ten_thousandths_at whole (c ∷ fraction) =
    if c == 46 && (are_digits whole && (are_digits fraction && nat_le (length fraction) 4))
    then Some (ten_thousandths_of whole fraction) else None

-- a sign or none, digits, a point and one to four digits, of which 64 bits hold the number
unfoldable pub decimal_in : List ℕ → Option Decimal
decimal_in text =
    option_and_then (of_long (λ n. record { ten_thousandths = n }))
    (signed_in (first_cut ten_thousandths_at) text)
