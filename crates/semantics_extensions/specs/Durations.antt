-- What a text is read as as a duration.
use Rattle.std.specs.Prelude.{ℕ, ◌+◌, ◌*◌, List, [], ◌∷◌, length, nat_lt, Option, Some, None, option_map, option_and_then, if◌then◌else◌}
use Rattle.std.specs.Option.{option_or}
use Rattle.cedar_extensions.specs.Amounts.{all_units, unit_name, unit_size}
use Rattle.cedar_extensions.specs.Numbers.{number_of}
use Rattle.cedar_extensions.specs.declared.duration.Duration.{Duration}
use Rattle.semantics_extensions.specs.Searches.{behind, first_cut}
use Rattle.semantics_extensions.specs.Signs.{are_digits, signed_in, of_long}

-- the milliseconds of an amount of a unit, which has this name and so many, and of others behind it
abbrev pub amount_at : List ℕ → ℕ → (List ℕ → Option ℕ) → List ℕ → List ℕ → Option ℕ
amount_at name size others digits rest =
    if are_digits digits
    then option_map (λ n. number_of digits * size + n) (option_and_then others (behind name rest))
    else None

-- the milliseconds of amounts of some of these units, each at most once and in this order; a unit
-- has a name and so many milliseconds
unfoldable pub amounts_in :
    {U : Type 0} → (U → List ℕ) → (U → ℕ) → List U → List ℕ → Option ℕ
amounts_in name size [] [] = Some 0
amounts_in name size [] (c ∷ cs) = None
amounts_in name size (u ∷ us) text =
    option_or (amounts_in name size us text)
    (first_cut (amount_at (name u) (size u) (amounts_in name size us)) text)

-- the milliseconds of an amount or more
abbrev pub some_amounts_in : List ℕ → Option ℕ
some_amounts_in text =
    if nat_lt 0 (length text) then amounts_in unit_name unit_size all_units text else None

-- a sign or none, and amounts, of which 64 bits hold the milliseconds
unfoldable pub duration_in : List ℕ → Option Duration
duration_in text =
    option_and_then (of_long (λ n. record { milliseconds = n })) (signed_in some_amounts_in text)
