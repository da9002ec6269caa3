-- What is written by escapes may stand between quotes.
use Rattle.std.proofs.Common.{◌≡◌, ◌≢◌, ℕ, zero, suc, ◌<◌, ◌≤◌, ◌/◌, ◌%◌, true, false, List, [], ◌∷◌, ◌++◌, length, get_or, refl, sym, ◌∙◌, subst, arith, append_assoc, append-nil, nat_lt, codes}
use Rattle.std.specs.Bool.{◌==◌}
use Rattle.std.specs.Prelude.{if◌then◌else◌}
use Rattle.std.specs.Fmt.{digit_glyph}
use Rattle.std.specs.List.{flat_map}
use Rattle.std.specs.Str.{chars, encode_utf8_all}
use Rattle.std.proofs.lemmas.Bool.Decides.{nat_tests}
use Rattle.std.proofs.lemmas.Fmt.{hex_one_digit, hex_two_digits}
use Rattle.std.proofs.lemmas.Str.{encodes-append, encode_ascii, inside_one}
use lib.Utf8.{encode}
use Rattle.cedar_lexer.specs.Grammar.{IsBetweenQuotes, nothing, plain, escaped as backslash}
use Rattle.cedar_terms.specs.Escape.{escape_char, escaped, hexadecimal, is_control}
use Rattle.cedar_terms.specs.Patterns.{elem_text, pattern_text}
use Rattle.cedar_terms.specs.declared.pattern.PatternElem.{PatternElem}
use Rattle.cedar_terms.specs.declared.pattern.PatternElem.TheVariants as elems

-- what may stand before what stands between quotes
abbrev IsBefore : List ℕ → Type 0
IsBefore w = (rest : List ℕ) → IsBetweenQuotes rest → IsBetweenQuotes (w ++ rest)

-- no byte is a quote or a backslash
abbrev IsPlain : List ℕ → Type 0
IsPlain w = (k : ℕ) → k < length w → (get_or w k 0 ≢ 34) × (get_or w k 0 ≢ 92)

plain_before : (w : List ℕ) → IsPlain w → IsBefore w
plain_before [] h rest q = q
plain_before (b ∷ w) h rest q =
    let first = h 0 (omega arith) in
    plain b (w ++ rest) first.0 first.1 (plain_before w (λ k l. h (suc k) (omega arith)) rest q)

-- a character that is neither, in UTF-8
character_plain : (c : ℕ) → c ≢ 34 → c ≢ 92 → IsPlain (encode c)
character_plain c q s k l = (λ e. q (same k l 34 e (omega arith)), λ e. s (same k l 92 e (omega arith)))
  where
    same : (k : ℕ) → k < length (encode c) → (n : ℕ) → get_or (encode c) k 0 ≡ n → n < 128 → c ≡ n
    same k l n e small = inside_one c [] (encode c) k (sym (append-nil (encode c))) l (omega (arith, e)) ∙ e

pair_before : (b : ℕ) → b < 128 → IsBefore (encode_utf8_all (92 ∷ b ∷ []))
pair_before b h rest q =
    subst (λ w. IsBetweenQuotes (w ++ rest)) (sym e) (backslash b rest q)
  where
    e : encode_utf8_all (92 ∷ b ∷ []) ≡ 92 ∷ b ∷ []
    e = rw (encode_ascii 92 (omega arith), encode_ascii b h) refl

-- a text in UTF-8 whose characters are no quotes and no backslashes
text_before : (cs : List ℕ) → ((k : ℕ) → k < length cs → (get_or cs k 0 ≢ 34) × (get_or cs k 0 ≢ 92)) → IsBefore (encode_utf8_all cs)
text_before [] h rest q = q
text_before (c ∷ cs) h rest q =
    let first = h 0 (omega arith) in
    subst IsBetweenQuotes (sym (append_assoc (encode c) (encode_utf8_all cs) rest))
    (plain_before (encode c) (character_plain c first.0 first.1) (encode_utf8_all cs ++ rest) (text_before cs (λ k l. h (suc k) (omega arith)) rest q))

-- two texts, one behind the other
joined_before : (xs ys : List ℕ) → IsBefore (encode_utf8_all xs) → IsBefore (encode_utf8_all ys) → IsBefore (encode_utf8_all (xs ++ ys))
joined_before xs ys h k rest q =
    subst (λ w. IsBetweenQuotes (w ++ rest)) (sym (encodes-append xs ys))
    (subst IsBetweenQuotes (sym (append_assoc (encode_utf8_all xs) (encode_utf8_all ys) rest)) (h (encode_utf8_all ys ++ rest) (k rest q)))

one_plain : (c : ℕ) → c ≢ 34 → c ≢ 92 → IsBefore (encode_utf8_all (c ∷ []))
one_plain c q s = text_before (c ∷ []) only
  where
    only : (k : ℕ) → k < 1 → (get_or (c ∷ []) k 0 ≢ 34) × (get_or (c ∷ []) k 0 ≢ 92)
    only zero l = (q, s)
    only (suc k) l = absurd (omega arith)

glyph_quote : (d : ℕ) → d < 16 → digit_glyph false d ≢ 34
glyph_quote d h e = grind (arith, nat_tests)

glyph_backslash : (d : ℕ) → d < 16 → digit_glyph false d ≢ 92
glyph_backslash d h e = grind (arith, nat_tests)

digit_before : (d : ℕ) → d < 16 → IsBefore (encode_utf8_all (digit_glyph false d ∷ []))
digit_before d h = one_plain (digit_glyph false d) (glyph_quote d h) (glyph_backslash d h)

hexadecimal_before : (c : ℕ) → c < 256 → IsBefore (encode_utf8_all (hexadecimal c))
hexadecimal_before c h = elim (nat_lt c 16) as (λ v. nat_lt c 16 ≡ v → IsBefore (encode_utf8_all (hexadecimal c))) [
  | true ↦ λ e.
      let l : c < 16 = grind (arith, nat_tests) in
      subst (λ w. IsBefore (encode_utf8_all w)) (sym (hex_one_digit false c l)) (digit_before c l)
  | false ↦ λ e.
      let l : 16 ≤ c = grind (arith, nat_tests) in
      subst (λ w. IsBefore (encode_utf8_all w)) (sym (hex_two_digits false c l h))
      (joined_before (digit_glyph false (c / 16) ∷ []) (digit_glyph false (c % 16) ∷ []) (digit_before (c / 16) (omega arith)) (digit_before (c % 16) (omega arith)))
] refl

control_before : (c : ℕ) → c < 256 → IsBefore (encode_utf8_all (codes "\\u{" ++ (hexadecimal c ++ codes "}")))
control_before c h =
    joined_before (92 ∷ 117 ∷ []) (123 ∷ (hexadecimal c ++ codes "}")) (pair_before 117 (omega arith))
    (joined_before (123 ∷ []) (hexadecimal c ++ codes "}") (one_plain 123 (λ e. omega (arith, e)) (λ e. omega (arith, e)))
    (joined_before (hexadecimal c) (125 ∷ []) (hexadecimal_before c h) (one_plain 125 (λ e. omega (arith, e)) (λ e. omega (arith, e)))))

small : (c : ℕ) → is_control c ≡ true → c < 256
small c h = grind (arith, nat_tests)

differs : (c k : ℕ) → (c == k) ≡ false → c ≢ k
differs c k e = grind (arith, nat_tests)

-- one entry of the table
entry : (c k : ℕ) (text rest : List ℕ) → IsBefore (encode_utf8_all text) → ((c == k) ≡ false → IsBefore (encode_utf8_all rest))
    → IsBefore (encode_utf8_all (if c == k then text else rest))
entry c k text rest here later = elim (c == k) as (λ v. (c == k) ≡ v → IsBefore (encode_utf8_all (if v then text else rest))) [
  | true ↦ λ e. here
  | false ↦ λ e. later e
] refl

last_entry : (c : ℕ) → (c == 34) ≡ false → (c == 92) ≡ false
    → IsBefore (encode_utf8_all (if is_control c then codes "\\u{" ++ (hexadecimal c ++ codes "}") else c ∷ []))
last_entry c q s = elim (is_control c) as (λ v. is_control c ≡ v → IsBefore (encode_utf8_all (if v then codes "\\u{" ++ (hexadecimal c ++ codes "}") else c ∷ []))) [
  | true ↦ λ e. control_before c (small c e)
  | false ↦ λ e. one_plain c (differs c 34 q) (differs c 92 s)
] refl

character_before : (c : ℕ) → IsBefore (encode_utf8_all (escape_char c))
character_before c =
    entry c 0 _ _ (pair_before 48 (omega arith)) (λ _.
    entry c 9 _ _ (pair_before 116 (omega arith)) (λ _.
    entry c 10 _ _ (pair_before 110 (omega arith)) (λ _.
    entry c 13 _ _ (pair_before 114 (omega arith)) (λ _.
    entry c 34 _ _ (pair_before 34 (omega arith)) (λ q.
    entry c 39 _ _ (pair_before 39 (omega arith)) (λ _.
    entry c 92 _ _ (pair_before 92 (omega arith)) (λ s.
    last_entry c q s)))))))

element_before : (e : PatternElem) → IsBefore (encode_utf8_all (elem_text e))
element_before (elems.Char c) = entry c 42 _ _ (pair_before 42 (omega arith)) (λ _. character_before c)
element_before elems.Wildcard = one_plain 42 (λ e. omega (arith, e)) (λ e. omega (arith, e))

each_before : {A : Type 0} (f : A → List ℕ) → ((a : A) → IsBefore (encode_utf8_all (f a))) → (xs : List A) → IsBefore (encode_utf8_all (flat_map f xs))
each_before f h [] = λ rest q. q
each_before f h (x ∷ xs) = joined_before (f x) (flat_map f xs) (h x) (each_before f h xs)

alone : (w : List ℕ) → IsBefore w → IsBetweenQuotes w
alone w h = subst IsBetweenQuotes (append-nil w) (h [] nothing)

pub escaped_between : (t : List ℕ) → IsBetweenQuotes (escaped t)
escaped_between t = alone (escaped t) (each_before escape_char character_before (chars t))

pub pattern_between : (es : List PatternElem) → IsBetweenQuotes (encode_utf8_all (pattern_text es))
pattern_between es = alone (encode_utf8_all (pattern_text es)) (each_before elem_text element_before es)
