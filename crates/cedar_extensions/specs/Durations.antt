-- What text stands for which duration (Cedar's RFC 80).
use Rattle.std.specs.Prelude.{◌≡◌, ℕ, ℤ, ◌+◌, ◌*◌, ◌^◌, ◌<◌, ◌≤◌, ◌⊎◌, Bool, List, [], ◌∷◌, ◌++◌, length, FitsSigned, MatchResult, Result, codes}
use Rattle.std.specs.Fmt.{signed_decimal}
use Rattle.std.specs.Int.{w64}
use Rattle.cedar_extensions.specs.Numbers.{signed, with_sign}
use Rattle.cedar_extensions.specs.Amounts.{IsAmounts, all_units}
use Rattle.cedar_extensions.specs.declared.duration.Duration.{Duration}
use Rattle.cedar_extensions.specs.declared.duration.DurationError.{DurationError}
use Rattle.cedar_extensions.specs.declared.duration.DurationError.TheVariants.{Malformed, Overflow}

-- the text stands for so many milliseconds: a sign or none, and an amount or more
pub record StandsFor (text : List ℕ) (n : ℤ) : Type 0 where
  pub is_negative : Bool
  pub amounts : List ℕ
  pub size : ℕ
  pub spelled : text ≡ with_sign is_negative amounts
  pub some : 0 < length amounts
  pub counted : IsAmounts all_units amounts size
  pub value : n ≡ signed is_negative size

-- the text stands for the duration
abbrev pub IsDurationText : List ℕ → Duration → Type 0
IsDurationText text d = StandsFor text d.milliseconds × FitsSigned w64 d.milliseconds

-- why the text stands for none: it has no such parts, or 64 bits are too few
abbrev pub IsRefusedFor : List ℕ → DurationError → Type 0
IsRefusedFor text Malformed = (n : ℤ) → ¬ (StandsFor text n)
IsRefusedFor text Overflow = (n : ℤ) × StandsFor text n × ¬ (FitsSigned w64 n)

-- the text is read as the duration that it stands for, and refused exactly if it stands for none
abbrev pub Reads : List ℕ → Result Duration DurationError → Type 0
Reads text r = MatchResult r (IsDurationText text) (λ e. IsRefusedFor text e × ((d : Duration) → ¬ (IsDurationText text d)))

-- the text of so many milliseconds
abbrev pub duration_text : ℤ → List ℕ
duration_text n = signed_decimal n ++ codes "ms"
