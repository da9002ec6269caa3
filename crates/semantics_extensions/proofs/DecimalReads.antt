-- A text is read as the decimal that it stands for.
use Rattle.std.proofs.Common.{◌≡◌, ◌↔◌, ℕ, ℤ, ◌≤◌, ◌==◌, ◌&&◌, List, [], ◌∷◌, ◌++◌, length, nat_le, Some, refl, sym, ap, subst, ◌∙◌, eqb-true}
use Rattle.std.proofs.lemmas.Bool.{and_parts, le-leb, leb-true}
use Rattle.std.proofs.lemmas.Option.{none-some}
use Rattle.std.proofs.NetLemmas.Options.{cond_some}
use Rattle.cedar_extensions.specs.Decimals.{IsDecimalText, StandsFor}
use Rattle.cedar_extensions.specs.Numbers.{IsDigits, with_sign}
use Rattle.cedar_extensions.specs.Parts.{ten_thousandths_of}
use Rattle.cedar_extensions.specs.declared.decimal.Decimal.{Decimal}
use Rattle.semantics_extensions.specs.Decimals.{decimal_in, ten_thousandths_at}
use Rattle.semantics_extensions.specs.Searches.{first_cut}
use Rattle.semantics_extensions.specs.Signs.{are_digits, signed_in}
use Rattle.semantics_extensions.proofs.Cuts.{Found, cut_found, cut_sound, exact}
use Rattle.semantics_extensions.proofs.SignedReads.{digits_pass, digits_sound, made_exact, signed_found, signed_sound}

at_sound : {P : Type 0} (whole back : List ℕ) (n : ℕ) → ten_thousandths_at whole back ≡ Some n → ((fraction : List ℕ) → back ≡ 46 ∷ fraction → IsDigits whole → IsDigits fraction → length fraction ≤ 4 → n ≡ ten_thousandths_of whole fraction → P) → P
at_sound whole [] n e k = absurd (none-some n e)
at_sound whole (c ∷ fraction) n e k =
    let both = cond_some (c == 46 && (are_digits whole && (are_digits fraction && nat_le (length fraction) 4))) (ten_thousandths_of whole fraction) n e in
    let point = and_parts (c == 46) (are_digits whole && (are_digits fraction && nat_le (length fraction) 4)) both.0 in
    let front = and_parts (are_digits whole) (are_digits fraction && nat_le (length fraction) 4) point.1 in
    let rest = and_parts (are_digits fraction) (nat_le (length fraction) 4) front.1 in
    k fraction (ap (λ x. x ∷ fraction) (eqb-true c 46 point.0)) (digits_sound whole front.0) (digits_sound fraction rest.0) (leb-true (length fraction) 4 rest.1) (sym both.1)

at_found : (whole fraction : List ℕ) → IsDigits whole → IsDigits fraction → length fraction ≤ 4 → Found (ten_thousandths_at whole (46 ∷ fraction))
at_found whole fraction w f few = (ten_thousandths_of whole fraction, rw (digits_pass whole w, digits_pass fraction f, le-leb (length fraction) 4 few) refl)

sound : (t : List ℕ) (z : ℤ) → signed_in (first_cut ten_thousandths_at) t ≡ Some z → StandsFor t z
sound t z e =
    signed_sound (first_cut ten_thousandths_at) t z e λ is_negative rest n spelled r v.
    cut_sound ten_thousandths_at rest n r λ whole back s g.
    at_sound whole back n g λ fraction b w f few is.
    record {
      is_negative = is_negative;
      whole = whole;
      fraction = fraction;
      parts = record {
        spelled = spelled ∙ ap (with_sign is_negative) (s ∙ ap (λ x. whole ++ x) b);
        whole_part = w;
        fraction_part = f;
      };
      at_most_four = few;
      value = rw (v, is) refl;
    }

found : (t : List ℕ) (z : ℤ) → StandsFor t z → Found (signed_in (first_cut ten_thousandths_at) t)
found t z h =
    subst (λ x. Found (signed_in (first_cut ten_thousandths_at) x)) (sym h.parts.spelled)
    (signed_found (first_cut ten_thousandths_at) h.is_negative (h.whole ++ 46 ∷ h.fraction)
    (cut_found ten_thousandths_at h.whole (46 ∷ h.fraction) (at_found h.whole h.fraction h.parts.whole_part h.parts.fraction_part h.at_most_four)))

pub decimal_exact : ((t : List ℕ) (x y : ℤ) → StandsFor t x → StandsFor t y → x ≡ y) → (t : List ℕ) (d : Decimal) → (decimal_in t ≡ Some d) ↔ IsDecimalText t d
unfolding decimal_in
decimal_exact unique t d =
    made_exact (λ n. record { ten_thousandths = n }) (λ x. x.ten_thousandths) (λ _. refl) (λ _. refl) (signed_in (first_cut ten_thousandths_at) t) (StandsFor t) (sound t)
    (exact (StandsFor t) (signed_in (first_cut ten_thousandths_at) t) (sound t) (found t) (unique t)) d
