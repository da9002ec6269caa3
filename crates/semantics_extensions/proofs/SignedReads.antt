-- What is read behind a sign, and numbers that 64 bits hold.
use Rattle.std.proofs.Common.{◌≡◌, ◌↔◌, ℕ, ℤ, ◌==◌, FitsSigned, w64, Bool, true, false, List, [], ◌∷◌, length, nat_lt, Option, Some, option_map, option_and_then, refl, sym, ap, subst, ◌∙◌, arith, eqb-true}
use Rattle.std.proofs.lemmas.Bool.{and_from, and_parts, lt-ltb, ltb-true}
use Rattle.std.proofs.lemmas.Int.{ints}
use Rattle.std.proofs.lemmas.Option.{none-some}
use Rattle.std.proofs.NetLemmas.Options.{and_then_some, cond_some, map_some}
use Rattle.std.specs.Char.{is_ascii_digit}
use Rattle.std.specs.List.{list_all}
use Rattle.cedar_extensions.specs.Numbers.{IsDigits, signed, with_sign}
use Rattle.semantics_extensions.specs.Signs.{are_digits, behind_minus, is_long, of_long, signed_in}
use Rattle.semantics_extensions.proofs.Cuts.{Found, if_some, map_found, or_first, or_second, or_sound}

pub digits_sound : (ds : List ℕ) → are_digits ds ≡ true → IsDigits ds
digits_sound ds h = let both = and_parts (nat_lt 0 (length ds)) (list_all is_ascii_digit ds) h in (ltb-true 0 (length ds) both.0, both.1)

pub digits_pass : (ds : List ℕ) → IsDigits ds → are_digits ds ≡ true
digits_pass ds h = and_from (nat_lt 0 (length ds)) (list_all is_ascii_digit ds) (lt-ltb 0 (length ds) h.0) h.1

minus_sound : {P : Type 0} (read : List ℕ → Option ℕ) (t : List ℕ) (n : ℕ) → behind_minus read t ≡ Some n → ((rest : List ℕ) → t ≡ 45 ∷ rest → read rest ≡ Some n → P) → P
minus_sound read [] n e k = absurd (none-some n e)
minus_sound read (c ∷ cs) n e k =
    let both = if_some (c == 45) (read cs) n e in
    k cs (ap (λ x. x ∷ cs) (eqb-true c 45 both.0)) both.1

pub signed_sound : {P : Type 0} (read : List ℕ → Option ℕ) (t : List ℕ) (z : ℤ) → signed_in read t ≡ Some z → ((is_negative : Bool) (rest : List ℕ) (n : ℕ) → t ≡ with_sign is_negative rest → read rest ≡ Some n → z ≡ signed is_negative n → P) → P
signed_sound read t z e k =
    or_sound (option_map (signed true) (behind_minus read t)) (option_map (signed false) (read t)) z e
    (λ h. map_some (signed true) (behind_minus read t) z h (λ n is v. minus_sound read t n is (λ rest s r. k true rest n s r (sym v))))
    (λ h. map_some (signed false) (read t) z h (λ n r v. k false t n refl r (sym v)))

pub signed_found : (read : List ℕ → Option ℕ) (is_negative : Bool) (rest : List ℕ) → Found (read rest) → Found (signed_in read (with_sign is_negative rest))
signed_found read true rest h = or_first (option_map (signed true) (read rest)) (option_map (signed false) (read (45 ∷ rest))) (map_found (signed true) (read rest) h)
signed_found read false rest h = or_second (option_map (signed true) (behind_minus read rest)) (option_map (signed false) (read rest)) (map_found (signed false) (read rest) h)

long_fits : (z : ℤ) → FitsSigned w64 z → is_long z ≡ true
long_fits z h = grind (arith, ints)

fits_long : (z : ℤ) → is_long z ≡ true → FitsSigned w64 z
fits_long z h = grind (arith, ints)

-- what is made of a number that is read exactly and that 64 bits hold
module _ {A : Type 0} (make : ℤ → A) (number : A → ℤ) (kept : (z : ℤ) → number (make z) ≡ z) (whole : (a : A) → make (number a) ≡ a) (o : Option ℤ) (P : ℤ → Type 0) (sound : (z : ℤ) → o ≡ Some z → P z) (complete : (z : ℤ) → P z → o ≡ Some z) where
  made_sound : (a : A) → option_and_then (of_long make) o ≡ Some a → P (number a) × FitsSigned w64 (number a)
  made_sound a e =
      and_then_some (of_long make) o a e λ z s l.
      let both = cond_some (is_long z) (make z) a l in
      let same : z ≡ number a = sym (kept z) ∙ ap number both.1 in
      subst (λ n. P n × FitsSigned w64 n) same (sound z s, fits_long z both.0)

  made_complete : (a : A) → P (number a) × FitsSigned w64 (number a) → option_and_then (of_long make) o ≡ Some a
  made_complete a h = rw (complete (number a) h.0, long_fits (number a) h.1) (ap Some (whole a))

  pub made_exact : (a : A) → (option_and_then (of_long make) o ≡ Some a) ↔ (P (number a) × FitsSigned w64 (number a))
  made_exact a = (made_sound a, made_complete a)
