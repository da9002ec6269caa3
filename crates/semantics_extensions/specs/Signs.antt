-- Digits, signs and the numbers that 64 bits hold.
use Rattle.std.specs.Prelude.{ℕ, ℤ, pos, neg_ℤ, ◌^◌, Bool, true, false, ◌&&◌, List, [], ◌∷◌, length, ◌==◌, nat_lt, int_le, int_lt, Option, Some, None, option_map, if◌then◌else◌}
use Rattle.std.specs.Char.{is_ascii_digit}
use Rattle.std.specs.List.{list_all}
use Rattle.std.specs.Option.{option_or}
use Rattle.cedar_extensions.specs.Numbers.{signed}

-- one decimal digit or more, and nothing else
abbrev pub are_digits : List ℕ → Bool
are_digits ds = nat_lt 0 (length ds) && list_all is_ascii_digit ds

-- what is read behind the minus sign that a text begins with
abbrev pub behind_minus : (List ℕ → Option ℕ) → List ℕ → Option ℕ
behind_minus read [] = None
behind_minus read (c ∷ cs) = if c == 45 then read cs else None

-- a number, behind a minus sign or without one
abbrev pub signed_in : (List ℕ → Option ℕ) → List ℕ → Option ℤ
signed_in read text =
    option_or (option_map (signed true) (behind_minus read text))
    (option_map (signed false) (read text))

-- whether 64 bits hold an integer
abbrev pub is_long : ℤ → Bool
is_long n = int_le (neg_ℤ (pos (2 ^ 63))) n && int_lt n (pos (2 ^ 63))

-- what is made of an integer, if 64 bits hold it
abbrev pub of_long : {A : Type 0} → (ℤ → A) → ℤ → Option A
of_long make n = if is_long n then Some (make n) else None
