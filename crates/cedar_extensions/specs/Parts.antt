-- The parts of a decimal's text.
use Rattle.std.specs.Prelude.{◌≡◌, ℕ, ◌+◌, ◌-◌, ◌*◌, ◌^◌, Bool, List, ◌∷◌, ◌++◌, length}
use Rattle.cedar_extensions.specs.Numbers.{IsDigits, number_of, with_sign}

-- the text is a sign or none, digits, a point and digits
pub record HasParts (text : List ℕ) (is_negative : Bool) (whole fraction : List ℕ) : Type 0 where
  pub spelled : text ≡ with_sign is_negative (whole ++ 46 ∷ fraction)
  pub whole_part : IsDigits whole
  pub fraction_part : IsDigits fraction

-- the text has no such parts
abbrev pub HasNoParts : List ℕ → Type 0
HasNoParts text = (is_negative : Bool) (whole fraction : List ℕ) → ¬ (HasParts text is_negative whole fraction)

-- the ten-thousandths that digits before and behind the point make, of which at most four are behind
abbrev pub ten_thousandths_of : List ℕ → List ℕ → ℕ
ten_thousandths_of whole fraction = number_of whole * 10 ^ 4 + number_of fraction * 10 ^ (4 - length fraction)
