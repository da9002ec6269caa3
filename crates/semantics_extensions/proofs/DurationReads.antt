-- A text is read as the duration that it stands for.
use Rattle.std.proofs.Common.{◌≡◌, ◌↔◌, ℕ, ℤ, ◌+◌, ◌*◌, ◌<◌, List, [], ◌∷◌, ◌++◌, length, nat_lt, Option, Some, option_map, option_and_then, refl, sym, ap, subst, ◌∙◌, inl, inr, ⊎_elim}
use Rattle.std.proofs.lemmas.Bool.{lt-ltb, ltb-true}
use Rattle.std.proofs.lemmas.Option.{none-some, same_Some}
use Rattle.std.proofs.NetLemmas.Options.{and_then_some, map_some}
use Rattle.cedar_extensions.specs.Amounts.{IsAmounts, all_units, unit_name, unit_size}
use Rattle.cedar_extensions.specs.Durations.{IsDurationText, StandsFor}
use Rattle.cedar_extensions.specs.Numbers.{IsDigits, number_of}
use Rattle.cedar_extensions.specs.declared.duration.Duration.{Duration}
use Rattle.semantics_extensions.specs.Durations.{amount_at, amounts_in, duration_in, some_amounts_in}
use Rattle.semantics_extensions.specs.Searches.{behind, first_cut}
use Rattle.semantics_extensions.specs.Signs.{are_digits, signed_in}
use Rattle.semantics_extensions.proofs.Cuts.{Found, behind_is, behind_sound, cut_found, cut_sound, exact, if_some, map_found, or_first, or_second, or_sound}
use Rattle.semantics_extensions.proofs.SignedReads.{digits_pass, digits_sound, made_exact, signed_found, signed_sound}

amount_sound : {P : Type 0} (name : List ℕ) (size : ℕ) (others : List ℕ → Option ℕ) (digits back : List ℕ) (n : ℕ) → amount_at name size others digits back ≡ Some n → ((rest : List ℕ) (m : ℕ) → IsDigits digits → back ≡ name ++ rest → others rest ≡ Some m → n ≡ number_of digits * size + m → P) → P
amount_sound name size others digits back n e k =
    let both = if_some (are_digits digits) (option_map (λ m. number_of digits * size + m) (option_and_then others (behind name back))) n e in
    map_some (λ m. number_of digits * size + m) (option_and_then others (behind name back)) n both.1 λ m r v.
    and_then_some others (behind name back) m r λ rest b o.
    k rest m (digits_sound digits both.0) (behind_sound name back rest b) o (sym v)

amount_found : (name : List ℕ) (size : ℕ) (others : List ℕ → Option ℕ) (digits rest : List ℕ) → IsDigits digits → Found (others rest) → Found (amount_at name size others digits (name ++ rest))
amount_found name size others digits rest h some =
    rw (digits_pass digits h, behind_is name rest) (map_found (λ m. number_of digits * size + m) (others rest) some)

amounts_sound : (us : _) (t : List ℕ) (n : ℕ) → amounts_in unit_name unit_size us t ≡ Some n → IsAmounts us t n
unfolding amounts_in
amounts_sound [] [] n e = (refl, sym (same_Some 0 n e))
amounts_sound [] (c ∷ cs) n e = absurd (none-some n e)
amounts_sound (u ∷ us) t n e =
    or_sound (amounts_in unit_name unit_size us t) (first_cut (amount_at (unit_name u) (unit_size u) (amounts_in unit_name unit_size us)) t) n e
    (λ h. inl (amounts_sound us t n h))
    (λ h.
    cut_sound (amount_at (unit_name u) (unit_size u) (amounts_in unit_name unit_size us)) t n h λ digits back s g.
    amount_sound (unit_name u) (unit_size u) (amounts_in unit_name unit_size us) digits back n g λ rest m d b o v.
    inr (record {
      digits = digits;
      rest = rest;
      others = m;
      spelled = s ∙ ap (λ x. digits ++ x) b;
      digit_part = d;
      others_part = amounts_sound us rest m o;
      value = v;
    }))

amounts_found : (us : _) (t : List ℕ) (n : ℕ) → IsAmounts us t n → Found (amounts_in unit_name unit_size us t)
unfolding amounts_in
amounts_found [] t n h = subst (λ x. Found (amounts_in unit_name unit_size [] x)) (sym h.0) (0, refl)
amounts_found (u ∷ us) t n h =
    ⊎_elim
    (λ k. or_first (amounts_in unit_name unit_size us t) (first_cut (amount_at (unit_name u) (unit_size u) (amounts_in unit_name unit_size us)) t) (amounts_found us t n k))
    (λ k.
    or_second (amounts_in unit_name unit_size us t) (first_cut (amount_at (unit_name u) (unit_size u) (amounts_in unit_name unit_size us)) t)
    (subst (λ x. Found (first_cut (amount_at (unit_name u) (unit_size u) (amounts_in unit_name unit_size us)) x)) (sym k.spelled)
    (cut_found (amount_at (unit_name u) (unit_size u) (amounts_in unit_name unit_size us)) k.digits (unit_name u ++ k.rest)
    (amount_found (unit_name u) (unit_size u) (amounts_in unit_name unit_size us) k.digits k.rest k.digit_part (amounts_found us k.rest k.others k.others_part)))))
    h

sound : (t : List ℕ) (z : ℤ) → signed_in some_amounts_in t ≡ Some z → StandsFor t z
sound t z e =
    signed_sound some_amounts_in t z e λ is_negative rest n spelled r v.
    let both = if_some (nat_lt 0 (length rest)) (amounts_in unit_name unit_size all_units rest) n r in
    record {
      is_negative = is_negative;
      amounts = rest;
      size = n;
      spelled = spelled;
      some = ltb-true 0 (length rest) both.0;
      counted = amounts_sound all_units rest n both.1;
      value = v;
    }

some_found : (t : List ℕ) (n : ℕ) → 0 < length t → IsAmounts all_units t n → Found (some_amounts_in t)
some_found t n some h = rw (lt-ltb 0 (length t) some) (amounts_found all_units t n h)

found : (t : List ℕ) (z : ℤ) → StandsFor t z → Found (signed_in some_amounts_in t)
found t z h =
    subst (λ x. Found (signed_in some_amounts_in x)) (sym h.spelled)
    (signed_found some_amounts_in h.is_negative h.amounts (some_found h.amounts h.size h.some h.counted))

pub duration_exact : ((t : List ℕ) (x y : ℤ) → StandsFor t x → StandsFor t y → x ≡ y) → (t : List ℕ) (d : Duration) → (duration_in t ≡ Some d) ↔ IsDurationText t d
unfolding duration_in
duration_exact unique t d =
    made_exact (λ n. record { milliseconds = n }) (λ x. x.milliseconds) (λ _. refl) (λ _. refl) (signed_in some_amounts_in t) (StandsFor t) (sound t)
    (exact (StandsFor t) (signed_in some_amounts_in t) (sound t) (found t) (unique t)) d
