-- No two patterns have one text: the text of an element is told from what follows it.
use Rattle.std.proofs.Common.{◌≡◌, ℕ, ◌+◌, ◌-◌, ◌*◌, ◌<◌, ◌≤◌, ◌/◌, ◌%◌, List, [], ◌∷◌, ◌++◌, Option, Some, None, length, get_or, take, true, false, refl, sym, ◌∙◌, ap, subst, arith, nat_lt}
use Rattle.std.specs.Bool.{◌==◌}
use Rattle.std.specs.Fmt.{digit_glyph}
use Rattle.std.specs.Option.{is_some, unwrap_or}
use Rattle.std.specs.Prelude.{codes, if◌then◌else◌}
use Rattle.std.specs.Str.{encode_utf8_all}
use Rattle.std.proofs.lemmas.Bool.{eqb-true, false≢true}
use Rattle.std.proofs.lemmas.Bool.Decides.{nat_tests}
use Rattle.std.proofs.lemmas.Fmt.{hex_one_digit, hex_two_digits}
use Rattle.std.proofs.lemmas.List.{take_more}
use Rattle.std.proofs.lemmas.Str.{encodes_same}
use Rattle.cedar_terms.proofs.EscapeLemmas.{encode_flat_map-push}
use Rattle.cedar_terms.specs.declared.pattern.PatternElem.{PatternElem}
use Rattle.cedar_terms.specs.declared.pattern.PatternElem.TheVariants.{Char, Wildcard}
use Rattle.cedar_terms.specs.Escape.{hexadecimal, is_control}
use Rattle.cedar_terms.specs.Patterns.{elem_text, pattern_text}

-- one element more
pub pattern_text-step : (p : List PatternElem) (i : ℕ) (d : PatternElem) → i < length p → encode_utf8_all (pattern_text (take i p)) ++ encode_utf8_all (elem_text (get_or p i d)) ≡ encode_utf8_all (pattern_text (take (i + 1) p))
pattern_text-step p i d h = encode_flat_map-push elem_text (take i p) (get_or p i d) ∙ ap (λ q. encode_utf8_all (pattern_text q)) (sym (take_more p i d h))

-- ---- a reader of one element, which gives the element and what follows its text

digit_of : ℕ → ℕ
digit_of g = if nat_lt g 58 then g - 48 else g - 87

tail_of : List ℕ → List ℕ
tail_of [] = []
tail_of (x ∷ xs) = xs

-- behind `\u{`
read_code : List ℕ → Option (PatternElem × List ℕ)
read_code [] = None
read_code (a ∷ []) = None
read_code (a ∷ b ∷ r) = if b == 125 then Some (Char (digit_of a), r) else Some (Char (16 * digit_of a + digit_of b), tail_of r)

-- the character that the letter behind a backslash stands for
letter_of : ℕ → ℕ
letter_of l = if l == 48 then 0 else (if l == 116 then 9 else (if l == 110 then 10 else (if l == 114 then 13 else l)))

-- behind a backslash
read_escape : List ℕ → Option (PatternElem × List ℕ)
read_escape [] = None
read_escape (l ∷ r) = if l == 117 then read_code (tail_of r) else Some (Char (letter_of l), r)

read : List ℕ → Option (PatternElem × List ℕ)
read [] = None
read (x ∷ xs) = if x == 42 then Some (Wildcard, xs) else (if x == 92 then read_escape xs else Some (Char x, xs))

-- ---- it reads each element's text

-- the text reads as the character c, whatever follows
Reads : List ℕ → ℕ → Type 0
Reads text c = (s : List ℕ) → read (text ++ s) ≡ Some (Char c, s)

digit_of-glyph : (d : ℕ) → d < 16 → digit_of (digit_glyph false d) ≡ d
unfolding digit_of
digit_of-glyph d h = grind (arith, nat_tests)

glyph_no_brace : (d : ℕ) → d < 16 → (digit_glyph false d == 125) ≡ false
glyph_no_brace d h = grind (arith, nat_tests)

code_text : List ℕ → List ℕ
code_text h = codes "\\u{" ++ (h ++ codes "}")

one_digit : (c : ℕ) → c < 16 → Reads (code_text (digit_glyph false c ∷ [])) c
unfolding Reads code_text read read_escape read_code letter_of tail_of
one_digit c h s = ap (λ n. Some (Char n, s)) (digit_of-glyph c h)

two_digits : (c : ℕ) → 16 ≤ c → c < 256 → Reads (code_text (digit_glyph false (c / 16) ∷ digit_glyph false (c % 16) ∷ [])) c
unfolding Reads code_text read read_escape read_code letter_of tail_of
two_digits c h k s =
    rw (glyph_no_brace (c % 16) (omega arith), digit_of-glyph (c / 16) (omega arith), digit_of-glyph (c % 16) (omega arith))
    (ap (λ n. Some (Char n, s)) (let e : 16 * (c / 16) + c % 16 ≡ c = omega arith in e))

reads_code : (c : ℕ) → c < 256 → Reads (code_text (hexadecimal c)) c
reads_code c h = elim (nat_lt c 16) as (λ v. nat_lt c 16 ≡ v → Reads (code_text (hexadecimal c)) c) [
  | true ↦ λ e.
      let l : c < 16 = grind (arith, nat_tests) in
      subst (λ t. Reads (code_text t) c) (sym (hex_one_digit false c l)) (one_digit c l)
  | false ↦ λ e.
      let l : 16 ≤ c = grind (arith, nat_tests) in
      subst (λ t. Reads (code_text t) c) (sym (hex_two_digits false c l h)) (two_digits c l h)
] refl

-- one level of the table
level : (c k : ℕ) (text rest : List ℕ) → Reads text k → ((c == k) ≡ false → Reads rest c) → Reads (if c == k then text else rest) c
level c k text rest here later = elim (c == k) as (λ v. (c == k) ≡ v → Reads (if v then text else rest) c) [
  | true ↦ λ e. subst (λ n. Reads text n) (sym (eqb-true c k e)) here
  | false ↦ λ e. later e
] refl

reads_itself : (c : ℕ) → (c == 42) ≡ false → (c == 92) ≡ false → Reads (c ∷ []) c
unfolding Reads read
reads_itself c h k s = rw (h, k) refl

control_is_small : (c : ℕ) → is_control c ≡ true → c < 256
control_is_small c h = grind (arith, nat_tests)

last_level : (c : ℕ) → (c == 42) ≡ false → (c == 92) ≡ false → Reads (if is_control c then code_text (hexadecimal c) else c ∷ []) c
last_level c h k = elim (is_control c) as (λ v. is_control c ≡ v → Reads (if v then code_text (hexadecimal c) else c ∷ []) c) [
  | true ↦ λ e. reads_code c (control_is_small c e)
  | false ↦ λ e. reads_itself c h k
] refl

reads_char : (c : ℕ) → Reads (elem_text (Char c)) c
unfolding Reads read read_escape letter_of code_text
reads_char c =
    level c 42 _ _ (λ s. refl) (λ n42.
    level c 0 _ _ (λ s. refl) (λ _.
    level c 9 _ _ (λ s. refl) (λ _.
    level c 10 _ _ (λ s. refl) (λ _.
    level c 13 _ _ (λ s. refl) (λ _.
    level c 34 _ _ (λ s. refl) (λ _.
    level c 39 _ _ (λ s. refl) (λ _.
    level c 92 _ _ (λ s. refl) (λ n92.
    last_level c n42 n92))))))))

read_elem : (x : PatternElem) (s : List ℕ) → read (elem_text x ++ s) ≡ Some (x, s)
unfolding Reads read
read_elem (Char c) s = reads_char c s
read_elem Wildcard s = refl

-- ---- so texts differ

read_nil : read [] ≡ None
unfolding read
read_nil = refl

elem_same : (x y : PatternElem) (s t : List ℕ) → elem_text x ++ s ≡ elem_text y ++ t → (x ≡ y) × (s ≡ t)
elem_same x y s t h =
    let e : Some (x, s) ≡ Some (y, t) = sym (read_elem x s) ∙ (ap read h ∙ read_elem y t) in
    (ap (λ o. (unwrap_or {T = PatternElem × List ℕ} o (x, s)).0) e, ap (λ o. (unwrap_or {T = PatternElem × List ℕ} o (x, s)).1) e)

elem_first : (x : PatternElem) (s : List ℕ) → [] ≡ elem_text x ++ s → ⊥
elem_first x s h = let e : None ≡ Some (x, s) = sym read_nil ∙ (ap read h ∙ read_elem x s) in absurd (false≢true (ap is_some e))

pub pattern_text-differs : (p q : List PatternElem) → pattern_text p ≡ pattern_text q → p ≡ q
pattern_text-differs [] [] h = refl
pattern_text-differs [] (y ∷ q) h = absurd (elem_first y (pattern_text q) h)
pattern_text-differs (x ∷ p) [] h = absurd (elem_first x (pattern_text p) (sym h))
pattern_text-differs (x ∷ p) (y ∷ q) h =
    let r = elem_same x y (pattern_text p) (pattern_text q) h in
    let tails : p ≡ q = pattern_text-differs p q r.1 in
    λ i. r.0 i ∷ tails i

pub pattern_bytes-differ : (p q : List PatternElem) → encode_utf8_all (pattern_text p) ≡ encode_utf8_all (pattern_text q) → p ≡ q
pattern_bytes-differ p q h = pattern_text-differs p q (encodes_same (pattern_text p) (pattern_text q) h)
