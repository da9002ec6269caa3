-- The digits of an integer of 64 bits write it.
use Rattle.std.proofs.Common.{◌≡◌, ℕ, suc, ◌<◌, ◌≤◌, ◌^◌, pos, negsuc, neg_ℤ, true, false, List, [], ◌∷◌, length, refl, ◌∙◌, ap, arith, FitsSigned, decimal, ◌==◌}
use Rattle.std.specs.Int.{w64}
use Rattle.std.specs.Char.{digit_value, is_ascii_digit}
use Rattle.std.specs.List.{list_all}
use Rattle.std.specs.Str.Parse.{AllDigits, digits_value, signed_digits_value}
use Rattle.std.proofs.lemmas.Fmt.{decimal_is_IsNumeral}
use Rattle.std.proofs.lemmas.Bool.Decides.{nat_tests}
use Rattle.std.specs.Cmp.Derive.{both_true}

pub value_is : (n : ℕ) → n < 2 ^ 63 → digits_value 10 (decimal n) ≡ n
value_is n h = (decimal_is_IsNumeral n (omega arith)).1

-- a decimal digit
digit_is : (c : ℕ) → digit_value c < 10 → is_ascii_digit c ≡ true
digit_is c h = grind (arith, nat_tests)

pub all_digits : (ds : List ℕ) → AllDigits 10 ds → list_all is_ascii_digit ds ≡ true
all_digits [] h = refl
all_digits (d ∷ ds) h = both_true (digit_is d h.0) (all_digits ds h.1)

no_sign_value : (ds : List ℕ) → 0 < length ds → AllDigits 10 ds → signed_digits_value 10 ds ≡ pos (digits_value 10 ds)
no_sign_value [] l h = absurd (omega (arith, l))
no_sign_value (d ∷ ds) l h =
    let minus : (d == 45) ≡ false = not_minus d h.0 in
    let plus : (d == 43) ≡ false = not_plus d h.0 in rw (minus, plus) refl
  where
    not_minus : (c : ℕ) → digit_value c < 10 → (c == 45) ≡ false
    not_minus c h = grind (arith, nat_tests)

    not_plus : (c : ℕ) → digit_value c < 10 → (c == 43) ≡ false
    not_plus c h = grind (arith, nat_tests)

pub positive_value : (n : ℕ) → FitsSigned w64 (pos n) → signed_digits_value 10 (decimal n) ≡ pos n
positive_value n h =
    let k = decimal_is_IsNumeral n (omega (arith, h.sfits)) in
    no_sign_value (decimal n) k.0.0 k.0.1 ∙ ap pos k.1

pub positive_fits : (n : ℕ) → FitsSigned w64 (pos n) → digits_value 10 (decimal n) < 2 ^ 63
positive_fits n h = let k = decimal_is_IsNumeral n (omega (arith, h.sfits)) in omega (arith, h.sfits, k.1)

pub negative_value : (n : ℕ) → FitsSigned w64 (negsuc n) → signed_digits_value 10 (45 ∷ decimal (suc n)) ≡ negsuc n
negative_value n h =
    let k = decimal_is_IsNumeral (suc n) (omega (arith, h.sfits)) in ap (λ m. neg_ℤ (pos m)) k.1

pub negative_fits : (n : ℕ) → FitsSigned w64 (negsuc n) → digits_value 10 (decimal (suc n)) ≤ 2 ^ 63
negative_fits n h = let k = decimal_is_IsNumeral (suc n) (omega (arith, h.sfits)) in omega (arith, h.sfits, k.1)
