-- Digits write integers of 64 bits.
use Rattle.std.proofs.Common.{◌≡◌, ℕ, zero, suc, ◌<◌, ◌≤◌, ◌^◌, pos, neg_ℤ, Bool, true, false, List, ◌∷◌, refl, sym, subst, ◌∙◌, arith, FitsSigned, ◌==◌}
use Rattle.std.specs.Int.{w64}
use Rattle.std.specs.Char.{is_ascii_digit}
use Rattle.std.specs.Str.Parse.{digits_value, signed_digits_value}
use Rattle.std.proofs.lemmas.Bool.{false≢true}
use Rattle.std.proofs.lemmas.Bool.Decides.{nat_tests}
use Rattle.cedar_lexer.specs.Grammar.{IsTokenText, word, digits, slot, quoted, sign}
use Rattle.cedar_lexer.specs.declared.token.TokenKind.{TokenKind}
use Rattle.cedar_lexer.specs.declared.token.TokenKind.TheVariants as kinds
use Rattle.semantics_grammar.proofs.Words.{kind_of_word, kind_of_sign}

abbrev is_digits : TokenKind → Bool
is_digits kinds.Digits = true
is_digits k = false

no_minus : (c : ℕ) → is_ascii_digit c ≡ true → (c == 45) ≡ false
no_minus c h = grind (arith, nat_tests)

no_plus : (c : ℕ) → is_ascii_digit c ≡ true → (c == 43) ≡ false
no_plus c h = grind (arith, nat_tests)

positive_fits : (n : ℕ) → n < 2 ^ 63 → FitsSigned w64 (pos n)
positive_fits n h = record { sfits = omega (arith, h) }

fits : (n : ℕ) → n ≤ 2 ^ 63 → FitsSigned w64 (neg_ℤ (pos n))
fits zero h = record { sfits = omega arith }
fits (suc n) h = record { sfits = omega (arith, h) }

number_of : {w : List ℕ} {k : TokenKind} → IsTokenText w k → is_digits k ≡ true → signed_digits_value 10 w ≡ pos (digits_value 10 w)
number_of (digits b bs h l) e =
    let minus : (b == 45) ≡ false = no_minus b h in
    let plus : (b == 43) ≡ false = no_plus b h in rw (minus, plus) refl
number_of (word b bs h l) e = absurd (false≢true (sym (kind_of_word is_digits (b ∷ bs) refl refl refl refl refl refl refl refl refl refl refl) ∙ e))
number_of (slot bs l) e = absurd (false≢true e)
number_of (quoted i h) e = absurd (false≢true e)
number_of (sign s k h) e = absurd (false≢true (sym (kind_of_sign is_digits s k h (refl, (refl, (refl, (refl, (refl, (refl, (refl, (refl, (refl, (refl, (refl, (refl, (refl, (refl, (refl, (refl, (refl, (refl, (refl, (refl, (refl, (refl, (refl, (refl, tt))))))))))))))))))))))))) ∙ e))

-- a number that stands alone
pub number_said : (d : List ℕ) → IsTokenText d kinds.Digits → digits_value 10 d < 2 ^ 63 → FitsSigned w64 (signed_digits_value 10 d)
number_said d i h = subst (FitsSigned w64) (sym (number_of i refl)) (positive_fits (digits_value 10 d) h)

-- a number behind a minus
pub negative_said : (d : List ℕ) → digits_value 10 d ≤ 2 ^ 63 → FitsSigned w64 (signed_digits_value 10 (45 ∷ d))
negative_said d h = fits (digits_value 10 d) h
