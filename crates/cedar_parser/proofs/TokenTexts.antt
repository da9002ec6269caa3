-- What the texts of tokens are: digits, and what stands between quotes.
use Rattle.std.proofs.Common.{◌≡◌, ◌≢◌, ◌<◌, ◌≤◌, ℕ, Bool, true, false, List, [], ◌∷◌, ◌++◌, Some, get_or, refl, sym, ◌∙◌, ap, subst, arith}
use Rattle.std.specs.Prelude.{◌==◌, ◌^◌, ℤ, ⊤, codes, cond, if◌then◌else◌, neg_ℤ, pos, encode_utf8_all, chars}
use Rattle.std.specs.Char.{is_ascii_digit}
use Rattle.std.specs.Str.{IsUtf8, bytes_eq}
use Rattle.std.specs.Str.Parse.{AllDigits, IsNumeral, digits_value, signed_digits_value, without_leading_plus}
use Rattle.std.proofs.lemmas.Bool.{false≢true, ne_eqb}
use Rattle.std.proofs.lemmas.Str.{encodes-chars}
use Rattle.std.proofs.lemmas.Str.Parse.{digit_from_value, without_leading_plus_none}
use Rattle.cedar_terms.specs.Literals.{LongLit}
use Rattle.cedar_terms.specs.declared.pattern.PatternElem.{PatternElem}
use Rattle.cedar_lexer.specs.Escapes.{IsInsideOfPattern, IsInsideOfText}
use Rattle.cedar_lexer.specs.Grammar.{IsTokenText, word, digits, slot, quoted, sign}
use Rattle.cedar_lexer.specs.Readings.{IsAnswerOfPattern, IsAnswerOfText}
use Rattle.cedar_lexer.specs.TokenKinds.{looked_up, signs, word_kind_of}
use Rattle.cedar_lexer.specs.declared.token.TokenKind.{TokenKind}
use Rattle.cedar_lexer.specs.declared.token.TokenKind.TheVariants as kinds
use Rattle.semantics_grammar.specs.Written.{IsPatternOf, IsTextOf}
use Rattle.cedar_parser.proofs.Operators.{none_some, some_one}

-- digits, or a text between quotes
abbrev pub is_value : TokenKind → Bool
is_value kinds.Digits = true
is_value kinds.Quoted = true
is_value k = false

abbrev pub is_quoted : TokenKind → Bool
is_quoted kinds.Quoted = true
is_quoted k = false

chosen : (p : TokenKind → Bool) (b : Bool) (x y : TokenKind) → p x ≡ false → p y ≡ false → p (if b then x else y) ≡ false
chosen p true x y h k = h
chosen p false x y h k = k

-- what no word's kind passes does not hold of the kind of a word
word_fails : (p : TokenKind → Bool) → p kinds.True ≡ false → p kinds.False ≡ false → p kinds.If ≡ false → p kinds.Then ≡ false
    → p kinds.Else ≡ false → p kinds.In ≡ false → p kinds.Is ≡ false → p kinds.Like ≡ false → p kinds.Has ≡ false → p kinds.Reserved ≡ false
    → p kinds.Word ≡ false → (w : List ℕ) → p (word_kind_of w) ≡ false
word_fails p h1 h2 h3 h4 h5 h6 h7 h8 h9 h10 h11 w =
    chosen p (bytes_eq w (codes "true")) kinds.True _ h1
    (chosen p (bytes_eq w (codes "false")) kinds.False _ h2
    (chosen p (bytes_eq w (codes "if")) kinds.If _ h3
    (chosen p (bytes_eq w (codes "then")) kinds.Then _ h4
    (chosen p (bytes_eq w (codes "else")) kinds.Else _ h5
    (chosen p (bytes_eq w (codes "in")) kinds.In _ h6
    (chosen p (bytes_eq w (codes "is")) kinds.Is _ h7
    (chosen p (bytes_eq w (codes "like")) kinds.Like _ h8
    (chosen p (bytes_eq w (codes "has")) kinds.Has _ h9
    (chosen p (bytes_eq w (codes "__cedar")) kinds.Reserved kinds.Word h10 h11)))))))))

-- a word is no value
pub word_kind : (w : List ℕ) → is_value (word_kind_of w) ≡ false
word_kind w = word_fails is_value refl refl refl refl refl refl refl refl refl refl refl w

-- no row of a table of signs is a value
abbrev pub HasNoValue : List (List ℕ × TokenKind) → Type 0
HasNoValue [] = ⊤
HasNoValue (e ∷ es) = (is_value e.1 ≡ false) × HasNoValue es

pub sign_kind : (s : List ℕ) (k : TokenKind) (es : List (List ℕ × TokenKind)) → HasNoValue es → looked_up s es ≡ Some k → is_value k ≡ false
sign_kind s k [] h e = absurd (none_some e)
sign_kind s k (x ∷ es) h e =
    elim (bytes_eq s x.0) as (λ v. (if v then Some x.1 else looked_up s es) ≡ Some k → is_value k ≡ false) [
      | true ↦ λ f. ap is_value (sym (some_one f)) ∙ h.0
      | false ↦ λ f. sign_kind s k es h.1 f
    ] e

pub no_value : HasNoValue signs
no_value =
    (refl, (refl, (refl, (refl, (refl, (refl, (refl, (refl, (refl, (refl, (refl, (refl, (refl, (refl, (refl, (refl, (refl, (refl, (refl, (refl, (refl, (refl, (refl, (refl, tt))))))))))))))))))))))))

-- a token in quotes has them
pub quoted_inside : {w : List ℕ} {k : TokenKind} → IsTokenText w k → k ≡ kinds.Quoted → (i : List ℕ) × (w ≡ 34 ∷ (i ++ (34 ∷ [])))
quoted_inside (word b bs h l) e = absurd (false≢true (sym (word_kind (b ∷ bs)) ∙ ap is_value e))
quoted_inside (digits b bs h l) e = absurd (false≢true (ap is_quoted e))
quoted_inside (slot bs l) e = absurd (false≢true (ap is_quoted e))
quoted_inside (quoted i h) e = (i, refl)
quoted_inside (sign s kind h) e = absurd (false≢true (sym (sign_kind s kind signs no_value h) ∙ ap is_value e))

-- digits begin with no sign
pub no_plus : {w : List ℕ} {k : TokenKind} → IsTokenText w k → k ≡ kinds.Digits → get_or w 0 0 ≢ 43
no_plus (word b bs h l) e = absurd (false≢true (sym (word_kind (b ∷ bs)) ∙ ap is_value e))
no_plus (digits b bs h l) e = λ p. false≢true (sym (ap is_ascii_digit p) ∙ h)
no_plus (slot bs l) e = absurd (false≢true (ap is_value e))
no_plus (quoted i h) e = absurd (false≢true (sym (ap is_quoted e)))
no_plus (sign s kind h) e = absurd (false≢true (sym (sign_kind s kind signs no_value h) ∙ ap is_value e))

-- the text of a token in quotes
pub text_meant : (w inside text : List ℕ) → ((i : List ℕ) → w ≡ 34 ∷ (i ++ (34 ∷ [])) → inside ≡ i) → IsTokenText w kinds.Quoted → IsUtf8 text
    → IsAnswerOfText (chars inside) (Some text) → IsTextOf w text
text_meant w inside text cut q utf8 answer =
    let i = quoted_inside q refl in
    let same : encode_utf8_all (chars text) ≡ text = encodes-chars text utf8 in
    record {
      inside = i.0;
      characters = chars text;
      quotes = i.1;
      reads = subst (λ x. IsInsideOfText (chars x) (chars text)) (cut i.0 i.1) ((answer (chars text)).1 (ap Some (sym same)));
      bytes = sym same;
    }

-- the pattern of a token in quotes
pub pattern_meant : (w inside : List ℕ) (p : List PatternElem) → ((i : List ℕ) → w ≡ 34 ∷ (i ++ (34 ∷ [])) → inside ≡ i) → IsTokenText w kinds.Quoted
    → IsAnswerOfPattern (chars inside) (Some p) → IsPatternOf w p
pattern_meant w inside p cut q answer =
    let i = quoted_inside q refl in
    record {
      inside = i.0;
      quotes = i.1;
      reads = subst (λ x. IsInsideOfPattern (chars x) p) (cut i.0 i.1) ((answer p).1 refl);
    }

-- digits are a number without a sign
unsigned_digits : (w : List ℕ) → AllDigits 10 w → signed_digits_value 10 w ≡ pos (digits_value 10 w)
unsigned_digits [] h = refl
unsigned_digits (c ∷ cs) h =
    let r = digit_from_value c h.0 in
    let minus : (c == 45) ≡ false = ne_eqb c 45 (λ e. omega (arith, r, e)) in
    let plus : without_leading_plus (c ∷ cs) ≡ c ∷ cs = without_leading_plus_none (c ∷ cs) (λ e. omega (arith, r, e)) in
    subst (λ b. cond b (neg_ℤ (pos (digits_value 10 (cond b cs (without_leading_plus (c ∷ cs))))))
    (pos (digits_value 10 (cond b cs (without_leading_plus (c ∷ cs))))) ≡ pos (digits_value 10 (c ∷ cs)))
    (sym minus) (ap (λ ds. pos (digits_value 10 ds)) plus)

pub number_meant : (w : List ℕ) (n : ℕ) → get_or w 0 0 ≢ 43 → IsNumeral 10 (without_leading_plus w) → n ≡ digits_value 10 (without_leading_plus w)
    → (n ≡ digits_value 10 w) × (signed_digits_value 10 w ≡ pos n)
number_meant w n plus numeral is =
    let same = without_leading_plus_none w plus in
    let e : n ≡ digits_value 10 w = is ∙ ap (digits_value 10) same in
    (e, unsigned_digits w (subst (AllDigits 10) same numeral.1) ∙ ap pos (sym e))

pub positive_meant : (w : List ℕ) (n : ℕ) (z : ℤ) → IsTokenText w kinds.Digits → IsNumeral 10 (without_leading_plus w)
    → n ≡ digits_value 10 (without_leading_plus w) → (n < 2 ^ 63) × (z ≡ pos n)
    → (digits_value 10 w < 2 ^ 63) × (LongLit z ≡ LongLit (signed_digits_value 10 w))
positive_meant w n z text numeral is s =
    let m = number_meant w n (no_plus text refl) numeral is in
    (subst (λ k. k < 2 ^ 63) m.0 s.0, ap LongLit (s.1 ∙ sym m.1))

pub negative_meant : (w : List ℕ) (n : ℕ) (z : ℤ) → IsTokenText w kinds.Digits → IsNumeral 10 (without_leading_plus w)
    → n ≡ digits_value 10 (without_leading_plus w) → (n ≤ 2 ^ 63) × (z ≡ neg_ℤ (pos n))
    → (digits_value 10 w ≤ 2 ^ 63) × (LongLit z ≡ LongLit (signed_digits_value 10 (45 ∷ w)))
negative_meant w n z text numeral is s =
    let m = number_meant w n (no_plus text refl) numeral is in
    (subst (λ k. k ≤ 2 ^ 63) m.0 s.0, ap LongLit (s.1 ∙ ap (λ k. neg_ℤ (pos k)) m.0))
