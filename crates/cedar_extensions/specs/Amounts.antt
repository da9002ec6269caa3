-- Amounts of time in texts, as `1d2h3m4s5ms` (Cedar's RFC 80).
use Rattle.std.specs.Prelude.{◌≡◌, ℕ, ◌+◌, ◌*◌, ◌⊎◌, List, [], ◌∷◌, ◌++◌, codes}
use Rattle.cedar_extensions.specs.Numbers.{IsDigits, number_of}
use Rattle.cedar_extensions.specs.declared.duration.Unit.{Unit}
use Rattle.cedar_extensions.specs.declared.duration.Unit.TheVariants.{Day, Hour, Minute, Second, Millisecond}

-- what the unit is called in a text
abbrev pub unit_name : Unit → List ℕ
unit_name Day = codes "d"
unit_name Hour = codes "h"
unit_name Minute = codes "m"
unit_name Second = codes "s"
unit_name Millisecond = codes "ms"

-- its milliseconds
abbrev pub unit_size : Unit → ℕ
unit_size Day = 24 * 60 * 60 * 1000
unit_size Hour = 60 * 60 * 1000
unit_size Minute = 60 * 1000
unit_size Second = 1000
unit_size Millisecond = 1

-- the units, the largest first
abbrev pub all_units : List Unit
all_units = Day ∷ Hour ∷ Minute ∷ Second ∷ Millisecond ∷ []

-- the text is an amount of this unit and others behind it, which make so many milliseconds
pub record AddsAmount (unit : Unit) (AreOthers : List ℕ → ℕ → Type 0) (text : List ℕ) (n : ℕ) : Type 0 where
  pub digits : List ℕ
  pub rest : List ℕ
  pub others : ℕ
  pub spelled : text ≡ digits ++ (unit_name unit ++ rest)
  pub digit_part : IsDigits digits
  pub others_part : AreOthers rest others
  pub value : n ≡ number_of digits * unit_size unit + others

-- the text is amounts of some of these units, each at most once and in this order, and makes so many milliseconds
abbrev pub IsAmounts : List Unit → List ℕ → ℕ → Type 0
IsAmounts [] text n = (text ≡ []) × (n ≡ 0)
IsAmounts (u ∷ us) text n = IsAmounts us text n ⊎ AddsAmount u (λ rest m. IsAmounts us rest m) text n
