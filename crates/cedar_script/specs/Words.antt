-- What a word of the script writes: a name or a number.
use Rattle.std.specs.Prelude.{◌≡◌, ◌==◌, ◌⊎◌, ◌<◌, ◌^◌, ℕ, List, IsTrue, false, slice_index, FitsSigned}
use Rattle.std.specs.Int.{w64}
use Rattle.std.specs.Str.Parse.{IsNumeral, without_leading_sign, digits_value, signed_digits_value}
use Rattle.cedar_names.specs.Names.{BareName, IsNameOf, IsNameText, has_reserved}

-- a text is no name that a user may define: it is outside the grammar, or has the component
-- `__cedar`
abbrev pub IsNoName : List ℕ → Type 0
IsNoName text = (IsNameText text → ⊥) ⊎ ((n : BareName) × IsNameOf text n × IsTrue (has_reserved n))

-- a text is an optional minus and one or more digits, which write an integer of 64 bits
abbrev pub WritesLong : List ℕ → Type 0
WritesLong text = ((slice_index text 0 == 43) ≡ false) × IsNumeral 10 (without_leading_sign text) × FitsSigned w64 (signed_digits_value 10 text)

-- a text is one or more digits, which write a count of 64 bits
abbrev pub WritesCount : List ℕ → Type 0
WritesCount text = IsNumeral 10 text × (digits_value 10 text < 2 ^ 64)
