-- The decimal text of a number has no leading zero, and no other such digits make the number.
use Rattle.std.proofs.Common.{◌≡◌, ℕ, ◌+◌, ◌*◌, ◌^◌, ◌<◌, ◌≤◌, ◌==◌, Bool, true, false, ◌&&◌, List, [], ◌∷◌, ◌++◌, length, get_or, decimal, refl, sym, ap, subst, ◌∙◌, ⊎_elim, arith, lit<}
use Rattle.std.proofs.lemmas.Bool.{and_from, and_parts, cases_lt, eqb-true}
use Rattle.std.proofs.lemmas.Bool.Decides.{nat_tests}
use Rattle.std.proofs.lemmas.Fmt.{decimal-digits_value, decimal_digit, decimal_nonempty, digits_decimal, digits_value-decimal, first_decimal}
use Rattle.std.proofs.lemmas.Str.Parse.{IsDigitsTest, IsNumeralModel, numerals_by_value}
use Rattle.std.specs.Char.{is_ascii_digit}
use Rattle.std.specs.Int.{IsInRange}
use Rattle.std.specs.List.{list_all}
use Rattle.cedar_extensions.specs.Numbers.{begins_with, number_of}
use Rattle.cedar_extensions.specs.Ranges.{HasLeadingZero}
use Rattle.cedar_extensions.proofs.Splits.{append_nil, whole_run}

digit_range : (c : ℕ) → is_ascii_digit c ≡ true → IsInRange 48 57 c
digit_range c h = (grind (arith, nat_tests), grind (arith, nat_tests))

range_digit : (c : ℕ) → IsInRange 48 57 c → is_ascii_digit c ≡ true
range_digit c h = grind (arith, nat_tests)

tells_digits : IsDigitsTest (λ ds. list_all is_ascii_digit ds ≡ true)
tells_digits = record {
  empty = refl;
  parts = λ c cs h. let both = and_parts (is_ascii_digit c) (list_all is_ascii_digit cs) h in (digit_range c both.0, both.1);
  more = λ c cs h k. and_from (is_ascii_digit c) (list_all is_ascii_digit cs) (range_digit c h) k;
}

-- the digits and their value are those of `parse`
pub own : IsNumeralModel (λ ds. list_all is_ascii_digit ds ≡ true) number_of
own = numerals_by_value _ tells_digits

pub decimal_digits : (n : ℕ) → n < 2 ^ 64 → list_all is_ascii_digit (decimal n) ≡ true
decimal_digits n h = digits_decimal own n h

pub decimal_number : (n : ℕ) → n < 2 ^ 64 → number_of (decimal n) ≡ n
decimal_number n h = digits_value-decimal own n h

no_zero_first : (n : ℕ) → n < 2 ^ 64 → HasLeadingZero (decimal n) → ⊥
no_zero_first n h z =
    ⊎_elim
    (λ (positive : 0 < n). let f = first_decimal n positive h in let e = z.0 in absurd (omega arith))
    (λ (least : n ≤ 0). let e : n ≡ 0 = omega arith in let l : length (decimal n) ≡ 1 = ap (λ m. length (decimal m)) e ∙ ap length (decimal_digit 0 (lit< tt)) in let more = z.1 in absurd (omega arith))
    (cases_lt 0 n)

-- digits without a leading zero are the decimal text of their number
pub is_decimal : (ds : List ℕ) → list_all is_ascii_digit ds ≡ true → 0 < length ds → (HasLeadingZero ds → ⊥) → number_of ds < 2 ^ 64 → ds ≡ decimal (number_of ds)
is_decimal ds h some plain small =
    sym (decimal-digits_value own ds h some (λ z. ⊎_elim (λ (more : 1 < length ds). absurd (plain (z, more))) (λ (few : length ds ≤ 1). let l : length ds ≡ 1 = omega arith in l) (cases_lt 1 (length ds))) small)

-- a text of digits and something, of which the digits are nothing, or the rest is not, or that has a leading zero, is no decimal text
pub no_decimal : (t ds r : List ℕ) (n : ℕ) → n < 2 ^ 64 → t ≡ ds ++ r → list_all is_ascii_digit ds ≡ true → begins_with is_ascii_digit r ≡ false → t ≡ decimal n → (ds ≡ decimal n) × (r ≡ []) × (0 < length ds) × (HasLeadingZero ds → ⊥) × (number_of ds ≡ n)
no_decimal t ds r n small e h ends is =
    let w = whole_run is_ascii_digit (decimal n) ds r (decimal_digits n small) h ends (sym is ∙ e) in
    let same : ds ≡ decimal n = sym w.0 in
    (same, w.1, subst (λ xs. 0 < length xs) w.0 (decimal_nonempty n small), λ z. no_zero_first n small (subst HasLeadingZero same z), ap number_of same ∙ decimal_number n small)

-- no decimal text of a number up to w, where the text is not of digits alone without a leading zero
pub none_if_bad : (t ds r : List ℕ) (w : ℕ) → w < 2 ^ 64 → t ≡ ds ++ r → list_all is_ascii_digit ds ≡ true → begins_with is_ascii_digit r ≡ false → ((0 < length ds) → (length r ≡ 0) → (HasLeadingZero ds → ⊥) → ⊥) → (n : ℕ) → n ≤ w → t ≡ decimal n → ⊥
none_if_bad t ds r w small e h ends bad n le is =
    let parts = no_decimal t ds r n (omega arith) e h ends is in
    bad parts.2 (ap length parts.1) parts.3

-- nor where their number is above w
pub none_if_large : (t ds r : List ℕ) (w : ℕ) → w < 2 ^ 64 → t ≡ ds ++ r → list_all is_ascii_digit ds ≡ true → begins_with is_ascii_digit r ≡ false → (number_of ds ≤ w → ⊥) → (n : ℕ) → n ≤ w → t ≡ decimal n → ⊥
none_if_large t ds r w small e h ends large n le is =
    let parts = no_decimal t ds r n (omega arith) e h ends is in
    let same = parts.4 in
    large (omega arith)

empty : (xs : List ℕ) → length xs ≡ 0 → xs ≡ []
empty [] h = refl
empty (x ∷ xs) h = absurd (omega arith)

-- and the decimal text of their number otherwise
pub prefix_is : (t ds r : List ℕ) (p : ℕ) → t ≡ ds ++ r → list_all is_ascii_digit ds ≡ true → 0 < length ds → length r ≡ 0 → (HasLeadingZero ds → ⊥) → number_of ds ≡ p → p < 2 ^ 64 → t ≡ decimal p
prefix_is t ds r p e h some none plain value small =
    e ∙ ap (λ x. ds ++ x) (empty r none) ∙ append_nil ds ∙ is_decimal ds h some plain (omega arith) ∙ ap decimal value
