-- How amounts of time are read.
use Rattle.std.specs.Prelude.{◌≡◌, ℕ, ◌+◌, ◌*◌, ◌^◌, ◌<◌, ◌≤◌, false, List, [], ◌∷◌, ◌++◌, ⊤, Result, Ok, Err, MatchResult}
use Rattle.cedar_extensions.specs.Numbers.{IsDigits, begins_with, is_no_digit, number_of}
use Rattle.cedar_extensions.specs.Amounts.{IsAmounts, unit_size}
use Rattle.cedar_extensions.specs.declared.duration.Unit.{Unit}
use Rattle.cedar_extensions.specs.declared.duration.DurationError.{DurationError}
use Rattle.cedar_extensions.specs.declared.duration.DurationError.TheVariants.{Malformed, Overflow}

-- the text begins with an amount of this name; behind it stands a digit or nothing
pub record IsAmount (text digits name rest : List ℕ) : Type 0 where
  pub spelled : text ≡ digits ++ (name ++ rest)
  pub digit_part : IsDigits digits
  pub ends : begins_with is_no_digit rest ≡ false

-- the unit is larger than each of these
abbrev pub IsLargerThan : Unit → List Unit → Type 0
IsLargerThan u [] = ⊤
IsLargerThan u (v ∷ vs) = (unit_size v < unit_size u) × IsLargerThan u vs

-- each unit is larger than those behind it
abbrev pub Descends : List Unit → Type 0
Descends [] = ⊤
Descends (u ∷ us) = IsLargerThan u us × Descends us

-- no amounts of these units, or amounts that 64 bits do not count
abbrev pub IsNotRead : List Unit → List ℕ → DurationError → Type 0
IsNotRead us text Malformed = (n : ℕ) → ¬ (IsAmounts us text n)
IsNotRead us text Overflow = (n : ℕ) × IsAmounts us text n × (2 ^ 64 ≤ n)

-- the result is the amount of the unit and the others, or the error of the others, or an overflow if 64 bits do not count them
abbrev pub AddsUp : Unit → List ℕ → Result ℕ DurationError → Result ℕ DurationError → Type 0
AddsUp u digits (Ok m) r = MatchResult r (λ n. n ≡ number_of digits * unit_size u + m) (λ e. (e ≡ Overflow) × (2 ^ 64 ≤ number_of digits * unit_size u + m))
AddsUp u digits (Err e) r = r ≡ Err e
