-- A text is a duration in one way.
use Rattle.std.proofs.Common.{◌≡◌, ℕ, ℤ, ◌+◌, ◌^◌, ◌<◌, ◌≤◌, ◌==◌, FitsSigned, w64, Bool, true, false, List, [], ◌∷◌, ◌++◌, length, refl, sym, ap, subst, ◌∙◌, arith, rules}
use Rattle.std.proofs.lemmas.Int.{ints}
use Rattle.std.specs.Char.{is_ascii_digit}
use Rattle.cedar_extensions.specs.Numbers.{begins_with, signed, with_sign}
use Rattle.cedar_extensions.specs.Amounts.{IsAmounts, all_units}
use Rattle.cedar_extensions.specs.AmountReads.{Descends, IsNotRead}
use Rattle.cedar_extensions.specs.Durations.{IsDurationText, IsRefusedFor, StandsFor}
use Rattle.cedar_extensions.specs.declared.duration.Duration.{Duration}
use Rattle.cedar_extensions.specs.declared.duration.DurationError.{DurationError}
use Rattle.cedar_extensions.specs.declared.duration.DurationError.TheVariants.{Malformed, Overflow}
use Rattle.cedar_extensions.proofs.DecimalTexts.{digit_is_no_minus}
use Rattle.cedar_extensions.proofs.Splits.{same_sign}
use Rattle.cedar_extensions.proofs.AmountTexts.{amounts_begin, same_size}

pub units_descend : Descends all_units
units_descend = search rules

-- the sign and the amounts of a text
amounts_are : (t r : List ℕ) (a : Bool) (n : ℤ) → t ≡ with_sign a r → (a ≡ false → begins_with (λ c. c == 45) r ≡ false) → (h : StandsFor t n) → (a ≡ h.is_negative) × (r ≡ h.amounts)
amounts_are t r a n e plain h = same_sign a h.is_negative r h.amounts (sym e ∙ h.spelled) plain (amounts_begin all_units h.amounts h.size h.some h.counted)

-- the number of a text
same_number : (t r : List ℕ) (a : Bool) (size : ℕ) (n : ℤ) → t ≡ with_sign a r → (a ≡ false → begins_with (λ c. c == 45) r ≡ false) → IsAmounts all_units r size → StandsFor t n → signed a size ≡ n
same_number t r a size n e plain k h =
    let s = amounts_are t r a n e plain h in
    let same = same_size all_units h.amounts size h.size units_descend (subst (λ x. IsAmounts all_units x size) s.1 k) h.counted in
    ap (λ b. signed b size) s.0 ∙ ap (signed h.is_negative) same ∙ sym h.value

abbrev IsRefused : List ℕ → DurationError → Type 0
IsRefused t e = IsRefusedFor t e × ((d : Duration) → IsDurationText t d → ⊥)

-- no text behind the sign
pub nothing_there : (t r : List ℕ) (a : Bool) → t ≡ with_sign a r → (a ≡ false → begins_with (λ c. c == 45) r ≡ false) → length r ≡ 0 → IsRefused t Malformed
nothing_there t r a e plain none =
    let no : (n : ℤ) → StandsFor t n → ⊥ = λ n h. let s = amounts_are t r a n e plain h in let len = ap length s.1 in let some = h.some in omega arith in
    (no, λ d stands. no d.milliseconds stands.0)

-- no amounts behind the sign
pub no_amounts : (t r : List ℕ) (a : Bool) → t ≡ with_sign a r → (a ≡ false → begins_with (λ c. c == 45) r ≡ false) → ((n : ℕ) → IsAmounts all_units r n → ⊥) → IsRefused t Malformed
no_amounts t r a e plain none =
    let no : (n : ℤ) → StandsFor t n → ⊥ = λ n h. let s = amounts_are t r a n e plain h in none h.size (subst (λ x. IsAmounts all_units x h.size) (sym s.1) h.counted) in
    (no, λ d stands. no d.milliseconds stands.0)

-- a number that does not fit
pub too_large : (t r : List ℕ) (a : Bool) (size : ℕ) → t ≡ with_sign a r → (a ≡ false → begins_with (λ c. c == 45) r ≡ false) → 0 < length r → IsAmounts all_units r size → (FitsSigned w64 (signed a size) → ⊥) → IsRefused t Overflow
too_large t r a size e plain some k large =
    let this : StandsFor t (signed a size) = record { is_negative = a; amounts = r; size = size; spelled = e; some = some; counted = k; value = refl } in
    ((signed a size, this, large), λ d stands. large (subst (FitsSigned w64) (sym (same_number t r a size d.milliseconds e plain k stands.0)) stands.1))

-- 64 bits and a sign hold less than 64 bits
above : (a : Bool) (size : ℕ) → 2 ^ 64 ≤ size → FitsSigned w64 (signed a size) → ⊥
above true size h fits = omega (arith, ints)
above false size h fits = omega (arith, ints)

pub refused : (t r : List ℕ) (a : Bool) (e : DurationError) → t ≡ with_sign a r → (a ≡ false → begins_with (λ c. c == 45) r ≡ false) → 0 < length r → IsNotRead all_units r e → IsRefused t e
refused t r a Malformed e plain some h = no_amounts t r a e plain h
refused t r a Overflow e plain some h = too_large t r a h.0 e plain some h.1 (above a h.0 h.2)

-- and one that does
pub stands : (t r : List ℕ) (a : Bool) (size : ℕ) → t ≡ with_sign a r → 0 < length r → IsAmounts all_units r size → StandsFor t (signed a size)
stands t r a size e some k = record { is_negative = a; amounts = r; size = size; spelled = e; some = some; counted = k; value = refl }

digit_first : (r : List ℕ) → begins_with is_ascii_digit r ≡ true → begins_with (λ c. c == 45) r ≡ false
digit_first [] h = refl
digit_first (c ∷ cs) h = digit_is_no_minus c h

-- a text stands for one duration at most
pub unique : (t : List ℕ) (m n : ℤ) → StandsFor t m → StandsFor t n → m ≡ n
unique t m n h k =
    h.value ∙ same_number t h.amounts h.is_negative h.size n h.spelled (λ _. digit_first h.amounts (amounts_begin all_units h.amounts h.size h.some h.counted)) h.counted k
