-- A text has the parts of a decimal in one way.
use Rattle.std.proofs.Common.{◌≡◌, ℕ, ℤ, ◌+◌, ◌<◌, ◌≤◌, ◌==◌, FitsSigned, w64, Bool, true, false, List, [], ◌∷◌, ◌++◌, length, refl, sym, ap, subst, ◌∙◌, arith}
use Rattle.std.proofs.lemmas.Bool.Decides.{nat_tests}
use Rattle.std.specs.Char.{is_ascii_digit}
use Rattle.std.specs.List.{list_all}
use Rattle.cedar_extensions.specs.Numbers.{IsDigits, begins_with, signed, with_sign}
use Rattle.cedar_extensions.specs.Parts.{HasNoParts, HasParts, ten_thousandths_of}
use Rattle.cedar_extensions.specs.Decimals.{IsDecimalText, IsRefusedFor, StandsFor}
use Rattle.cedar_extensions.specs.declared.decimal.Decimal.{Decimal}
use Rattle.cedar_extensions.specs.declared.decimal.DecimalError.TheVariants.{Malformed, TooManyDigits, Overflow}
use Rattle.cedar_extensions.proofs.Splits.{digits_begin, same_sign, same_split, whole_run}

-- what a text is up to the point
pub parts_split : (t r r1 ds : List ℕ) (a : Bool) → t ≡ with_sign a r → (a ≡ false → begins_with (λ c. c == 45) r ≡ false) → r ≡ ds ++ r1 → list_all is_ascii_digit ds ≡ true → begins_with is_ascii_digit r1 ≡ false → (n : Bool) (w f : List ℕ) → HasParts t n w f → (a ≡ n) × (w ≡ ds) × (46 ∷ f ≡ r1)
parts_split t r r1 ds a e plain er hd h1 n w f h =
    let s = same_sign a n r (w ++ 46 ∷ f) (sym e ∙ h.spelled) plain (digits_begin w (46 ∷ f) h.whole_part) in
    let d = same_split is_ascii_digit w ds (46 ∷ f) r1 h.whole_part.1 hd refl h1 (sym s.1 ∙ er) in
    (s.0, d.0, d.1)

-- what it is as a whole
pub parts_read : (t r r1 r2 r3 ds es : List ℕ) (a : Bool) → t ≡ with_sign a r → (a ≡ false → begins_with (λ c. c == 45) r ≡ false) → r ≡ ds ++ r1 → list_all is_ascii_digit ds ≡ true → begins_with is_ascii_digit r1 ≡ false → r1 ≡ 46 ∷ r2 → r2 ≡ es ++ r3 → list_all is_ascii_digit es ≡ true → begins_with is_ascii_digit r3 ≡ false → (n : Bool) (w f : List ℕ) → HasParts t n w f → (a ≡ n) × (w ≡ ds) × (f ≡ es) × (r3 ≡ [])
parts_read t r r1 r2 r3 ds es a e plain er hd h1 e1 e2 he h3 n w f h =
    let s = parts_split t r r1 ds a e plain er hd h1 n w f h in
    let p : 46 ∷ f ≡ r1 = s.2 in
    let q : f ≡ r2 = cc in
    let d = whole_run is_ascii_digit f es r3 h.fraction_part.1 he h3 (q ∙ e2) in
    (s.0, s.1, d.0, d.1)

pub digit_is_no_minus : (c : ℕ) → is_ascii_digit c ≡ true → (c == 45) ≡ false
digit_is_no_minus c h = grind (arith, nat_tests)

no_minus : (w r : List ℕ) (n : Bool) → IsDigits w → n ≡ false → begins_with (λ c. c == 45) (w ++ r) ≡ false
no_minus [] r n h e = absurd (omega (arith, h.0))
no_minus (c ∷ cs) r n h e = digit_is_no_minus c (digits_begin (c ∷ cs) r h)

-- two readings of a text are one
pub same_parts : (t w f v g : List ℕ) (m n : Bool) → HasParts t m w f → HasParts t n v g → (m ≡ n) × (w ≡ v) × (f ≡ g)
same_parts t w f v g m n h k =
    let s = parts_split t (v ++ 46 ∷ g) (46 ∷ g) v n k.spelled (no_minus v (46 ∷ g) n k.whole_part) refl k.whole_part.1 refl m w f h in
    let p : 46 ∷ f ≡ 46 ∷ g = s.2 in
    (sym s.0, s.1, cc)

same_value : (m n : Bool) (w v f g : List ℕ) → m ≡ n → w ≡ v → f ≡ g → signed m (ten_thousandths_of w f) ≡ signed n (ten_thousandths_of v g)
same_value m n w v f g e d c = rw (e, d, c)

pub same_number : (t : List ℕ) (x y : ℤ) → StandsFor t x → StandsFor t y → x ≡ y
same_number t x y h k =
    let s = same_parts t h.whole h.fraction k.whole k.fraction h.is_negative k.is_negative h.parts k.parts in
    h.value ∙ same_value h.is_negative k.is_negative h.whole k.whole h.fraction k.fraction s.0 s.1 s.2 ∙ sym k.value

pub no_point : (f r : List ℕ) → 46 ∷ f ≡ r → begins_with (λ c. c == 46) r ≡ false → ⊥
no_point f r e h = let t : true ≡ false = ap (begins_with (λ c. c == 46)) e ∙ h in cc

pub nothing_empty : (w ds f es r : List ℕ) → IsDigits w → IsDigits f → w ≡ ds → f ≡ es → r ≡ [] → (0 < length ds) × (0 < length es) × (length r ≡ 0)
nothing_empty w ds f es r hw hf ew ef er = (rw (← ew) hw.0, rw (← ef) hf.0, ap length er)

-- with too many digits behind the point it stands for nothing
pub too_long : (t : List ℕ) (a : Bool) (w f : List ℕ) → HasParts t a w f → 4 < length f → IsRefusedFor t TooManyDigits × ((d : Decimal) → IsDecimalText t d → ⊥)
too_long t a w f h long = (
  (a, w, f, h, long),
  λ d stands.
      let k = stands.0 in
      let same = same_parts t w f k.whole k.fraction a k.is_negative h k.parts in
      let e = ap length same.2 in
      let few = k.at_most_four in
      absurd (omega arith),
)

-- if its number does not fit, it stands for nothing
pub too_large : (t : List ℕ) (a : Bool) (w f : List ℕ) → HasParts t a w f → length f ≤ 4 → (FitsSigned w64 (signed a (ten_thousandths_of w f)) → ⊥) → IsRefusedFor t Overflow × ((d : Decimal) → IsDecimalText t d → ⊥)
too_large t a w f h few large =
    let n = signed a (ten_thousandths_of w f) in
    let this : StandsFor t n = record { is_negative = a; whole = w; fraction = f; parts = h; at_most_four = few; value = refl } in
    ((n, this, large), λ d stands. large (subst (FitsSigned w64) (same_number t d.ten_thousandths n stands.0 this) stands.1))

-- without parts it stands for nothing
pub malformed : (t : List ℕ) → HasNoParts t → IsRefusedFor t Malformed × ((d : Decimal) → IsDecimalText t d → ⊥)
malformed t none = (none, λ d stands. none stands.0.is_negative stands.0.whole stands.0.fraction stands.0.parts)

pub not_nothing : (n : ℕ) → true ≡ (n == 0) → 0 < n → ⊥
not_nothing n e h = grind (arith, nat_tests)

pub not_something : (n : ℕ) → false ≡ (n == 0) → n ≡ 0 → ⊥
not_something n e h = grind (arith, nat_tests)

pub something : (n : ℕ) → false ≡ (n == 0) → 0 < n
something n e = grind (arith, nat_tests)

pub nothing : (n : ℕ) → true ≡ (n == 0) → n ≡ 0
nothing n e = grind (arith, nat_tests)
