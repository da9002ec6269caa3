-- What is written between quotes by escapes stands for what was written.
use Rattle.std.proofs.Common.{◌≡◌, ℕ, ◌+◌, ◌*◌, ◌/◌, ◌%◌, ◌<◌, ◌≤◌, Bool, true, false, List, [], ◌∷◌, ◌++◌, map, refl, sym, ◌∙◌, ap, subst, arith, nat_lt}
use Rattle.std.specs.Bool.{◌==◌}
use Rattle.std.specs.Char.{digit_value, IsScalar}
use Rattle.std.specs.Fmt.{digit_glyph}
use Rattle.std.specs.Prelude.{codes, IsTrue, if◌then◌else◌}
use Rattle.std.specs.Cmp.Derive.{both_true}
use Rattle.std.specs.Str.{all_scalars, chars, IsUtf8, encode_utf8_all}
use Rattle.std.specs.Str.Parse.{digits_value}
use Rattle.std.proofs.lemmas.Str.{chars-encodes, scalars-chars}
use Rattle.std.proofs.lemmas.Bool.{eqb-true}
use Rattle.std.proofs.lemmas.Bool.Decides.{nat_tests}
use Rattle.std.proofs.lemmas.Fmt.{hex_one_digit, hex_two_digits}
use lib.Utf8.{low_scalar, scalar}
use Rattle.cedar_terms.specs.Escape.{escape, escape_char, escaped, hexadecimal, is_control}
use Rattle.cedar_terms.specs.Patterns.{elem_text, pattern_text}
use Rattle.cedar_terms.specs.declared.pattern.PatternElem.{PatternElem}
use Rattle.cedar_terms.specs.declared.pattern.PatternElem.TheVariants as elems
use Rattle.cedar_lexer.specs.Escapes.{IsInsideOfPattern, IsInsideOfText, IsPieceText, Writes, has_scalars, itself, by_letter, by_code, piece_elem}
use Rattle.cedar_lexer.specs.declared.escapes.Piece.{Piece}
use Rattle.cedar_lexer.specs.declared.escapes.Piece.TheVariants.{Char, Star}
use Rattle.cedar_lexer.proofs.FirstPieceLemmas.{both}

-- ---- each character's escape

glyph_value : (d : ℕ) → d < 16 → digit_value (digit_glyph false d) ≡ d
glyph_value d h = grind (arith, nat_tests)

code_text : List ℕ → List ℕ
code_text h = codes "\\u{" ++ (h ++ codes "}")

value_of_one : (g c : ℕ) → digit_value g ≡ c → digits_value 16 (g ∷ []) ≡ c
value_of_one g c e = ap (λ n. 0 * 16 + n) e ∙ zero_of c
  where
    zero_of : (n : ℕ) → 0 * 16 + n ≡ n
    zero_of n = omega arith

value_of_two : (f g a b : ℕ) → digit_value f ≡ a → digit_value g ≡ b → digits_value 16 (f ∷ g ∷ []) ≡ a * 16 + b
value_of_two f g a b e k = ap (λ n. (0 * 16 + n) * 16 + digit_value g) e ∙ (ap (λ n. (0 * 16 + a) * 16 + n) k ∙ zero_of a b)
  where
    zero_of : (m n : ℕ) → (0 * 16 + m) * 16 + n ≡ m * 16 + n
    zero_of m n = omega arith

one_digit : (c : ℕ) → c < 16 → Writes (code_text (digit_glyph false c ∷ [])) c
unfolding code_text
one_digit c h =
    let g = digit_glyph false c in
    let d : digit_value g ≡ c = glyph_value c h in
    let v = value_of_one g c d in
    subst (λ n. Writes (code_text (g ∷ [])) n) v
    (by_code (g ∷ []) (omega arith) (omega arith) (subst (λ n. n < 16) (sym d) h, tt)
    (subst IsScalar (sym v) (low_scalar c (omega arith))))

two_digits : (c : ℕ) → 16 ≤ c → c < 256 → Writes (code_text (digit_glyph false (c / 16) ∷ digit_glyph false (c % 16) ∷ [])) c
unfolding code_text
two_digits c h k =
    let f = digit_glyph false (c / 16) in
    let g = digit_glyph false (c % 16) in
    let a : digit_value f ≡ c / 16 = glyph_value (c / 16) (omega arith) in
    let b : digit_value g ≡ c % 16 = glyph_value (c % 16) (omega arith) in
    let m : c / 16 < 16 = omega arith in
    let n : c % 16 < 16 = omega arith in
    let whole : (c / 16) * 16 + c % 16 ≡ c = omega arith in
    let v = value_of_two f g (c / 16) (c % 16) a b ∙ whole in
    subst (λ n. Writes (code_text (f ∷ g ∷ [])) n) v
    (by_code (f ∷ g ∷ []) (omega arith) (omega arith)
    (subst (λ n. n < 16) (sym a) m, (subst (λ n. n < 16) (sym b) n, tt))
    (subst IsScalar (sym v) (low_scalar c (omega arith))))

code_written : (c : ℕ) → c < 256 → Writes (code_text (hexadecimal c)) c
code_written c h = elim (nat_lt c 16) as (λ v. nat_lt c 16 ≡ v → Writes (code_text (hexadecimal c)) c) [
  | true ↦ λ e.
      let l : c < 16 = grind (arith, nat_tests) in
      subst (λ t. Writes (code_text t) c) (sym (hex_one_digit false c l)) (one_digit c l)
  | false ↦ λ e.
      let l : 16 ≤ c = grind (arith, nat_tests) in
      subst (λ t. Writes (code_text t) c) (sym (hex_two_digits false c l h)) (two_digits c l h)
] refl

-- one entry of the table
entry : (c k : ℕ) (text rest : List ℕ) → Writes text k → ((c == k) ≡ false → Writes rest c) → Writes (if c == k then text else rest) c
entry c k text rest here later = elim (c == k) as (λ v. (c == k) ≡ v → Writes (if v then text else rest) c) [
  | true ↦ λ e. subst (λ n. Writes text n) (sym (eqb-true c k e)) here
  | false ↦ λ e. later e
] refl

control_is_small : (c : ℕ) → is_control c ≡ true → c < 256
control_is_small c h = grind (arith, nat_tests)

differs : (c k : ℕ) → (c == k) ≡ false → c ≡ k → ⊥
differs c k e h = grind (arith, nat_tests)

last_entry : (c : ℕ) → (c == 13) ≡ false → (c == 92) ≡ false → Writes (if is_control c then code_text (hexadecimal c) else c ∷ []) c
last_entry c m n = elim (is_control c) as (λ v. is_control c ≡ v → Writes (if v then code_text (hexadecimal c) else c ∷ []) c) [
  | true ↦ λ e. code_written c (control_is_small c e)
  | false ↦ λ e. itself (differs c 13 m) (differs c 92 n)
] refl

char_written : (c : ℕ) → Writes (escape_char c) c
unfolding code_text
char_written c =
    entry c 0 _ _ (by_letter refl) (λ _.
    entry c 9 _ _ (by_letter refl) (λ _.
    entry c 10 _ _ (by_letter refl) (λ _.
    entry c 13 _ _ (by_letter refl) (λ m.
    entry c 34 _ _ (by_letter refl) (λ _.
    entry c 39 _ _ (by_letter refl) (λ _.
    entry c 92 _ _ (by_letter refl) (λ n.
    last_entry c m n)))))))

-- ---- an escape is a text

joined : (xs ys : List ℕ) → all_scalars xs ≡ true → all_scalars ys ≡ true → all_scalars (xs ++ ys) ≡ true
joined [] ys h k = k
joined (x ∷ xs) ys h k = let b = both (scalar x) (all_scalars xs) h in both_true b.0 (joined xs ys b.1 k)

glyph_scalar : (d : ℕ) → d < 16 → scalar (digit_glyph false d) ≡ true
glyph_scalar d h = low_scalar (digit_glyph false d) (below d h)
  where
    below : (d : ℕ) → d < 16 → digit_glyph false d < 55296
    below d h = grind (arith, nat_tests)

digits_scalar : (c : ℕ) → c < 256 → all_scalars (hexadecimal c) ≡ true
digits_scalar c h = elim (nat_lt c 16) as (λ v. nat_lt c 16 ≡ v → all_scalars (hexadecimal c) ≡ true) [
  | true ↦ λ e.
      let l : c < 16 = grind (arith, nat_tests) in
      ap all_scalars (hex_one_digit false c l) ∙ both_true (glyph_scalar c l) refl
  | false ↦ λ e.
      let l : 16 ≤ c = grind (arith, nat_tests) in
      ap all_scalars (hex_two_digits false c l h)
      ∙ both_true (glyph_scalar (c / 16) (omega arith)) (both_true (glyph_scalar (c % 16) (omega arith)) refl)
] refl

choice_scalar : (v : Bool) (text rest : List ℕ) → all_scalars text ≡ true → (v ≡ false → all_scalars rest ≡ true)
    → all_scalars (if v then text else rest) ≡ true
choice_scalar true text rest h k = h
choice_scalar false text rest h k = k refl

last_scalar : (c : ℕ) → scalar c ≡ true → all_scalars (if is_control c then code_text (hexadecimal c) else c ∷ []) ≡ true
unfolding code_text
last_scalar c h = elim (is_control c) as (λ v. is_control c ≡ v → all_scalars (if v then code_text (hexadecimal c) else c ∷ []) ≡ true) [
  | true ↦ λ e. joined (codes "\\u{") (hexadecimal c ++ codes "}") refl (joined (hexadecimal c) (codes "}") (digits_scalar c (control_is_small c e)) refl)
  | false ↦ λ e. both_true h refl
] refl

escape_scalar : (c : ℕ) → scalar c ≡ true → all_scalars (escape_char c) ≡ true
unfolding code_text
escape_scalar c h =
    choice_scalar (c == 0) _ _ refl (λ _.
    choice_scalar (c == 9) _ _ refl (λ _.
    choice_scalar (c == 10) _ _ refl (λ _.
    choice_scalar (c == 13) _ _ refl (λ _.
    choice_scalar (c == 34) _ _ refl (λ _.
    choice_scalar (c == 39) _ _ refl (λ _.
    choice_scalar (c == 92) _ _ refl (λ _.
    last_scalar c h)))))))

escapes_scalar : (cs : List ℕ) → all_scalars cs ≡ true → all_scalars (escape cs) ≡ true
escapes_scalar [] h = refl
escapes_scalar (c ∷ cs) h =
    let b = both (scalar c) (all_scalars cs) h in
    joined (escape_char c) (escape cs) (escape_scalar c b.0) (escapes_scalar cs b.1)

elem_scalar : (c : ℕ) → scalar c ≡ true → all_scalars (elem_text (elems.Char c)) ≡ true
elem_scalar c h = choice_scalar (c == 42) (codes "\\*") (escape_char c) refl (λ _. escape_scalar c h)

elems_scalar : (es : List PatternElem) → has_scalars es ≡ true → all_scalars (pattern_text es) ≡ true
elems_scalar [] h = refl
elems_scalar (elems.Char c ∷ es) h =
    let b = both (scalar c) (has_scalars es) h in
    joined (elem_text (elems.Char c)) (pattern_text es) (elem_scalar c b.0) (elems_scalar es b.1)
elems_scalar (elems.Wildcard ∷ es) h = both_true refl (elems_scalar es h)

-- ---- texts

chars_written : (cs : List ℕ) → IsInsideOfText (escape cs) cs
chars_written [] = refl
chars_written (c ∷ cs) = (escape_char c, escape cs, refl, char_written c, chars_written cs)

pub text_written : (t : List ℕ) → IsUtf8 t → IsInsideOfText (chars (escaped t)) (chars t)
text_written t h =
    subst (λ cs. IsInsideOfText cs (chars t))
    (sym (chars-encodes (escape (chars t)) (escapes_scalar (chars t) (scalars-chars t h)))) (chars_written (chars t))

-- ---- patterns

-- the piece that an element is written as
elem_piece : PatternElem → Piece
elem_piece (elems.Char c) = if c == 42 then Star else Char c
elem_piece elems.Wildcard = Char 42

elem_written : (e : PatternElem) → IsPieceText (elem_text e) (elem_piece e) × (piece_elem (elem_piece e) ≡ e)
unfolding elem_piece
elem_written (elems.Char c) =
    elim (c == 42) as (λ v. (c == 42) ≡ v → IsPieceText (if v then codes "\\*" else escape_char c) (if v then Star else Char c) × (piece_elem (if v then Star else Char c) ≡ elems.Char c)) [
      | true ↦ λ h. (refl, ap (λ n. elems.Char n) (sym (eqb-true c 42 h)))
      | false ↦ λ h. (char_written c, rw h refl)
    ] refl
elem_written elems.Wildcard = (itself (λ h. absurd (omega (arith, h))) (λ h. absurd (omega (arith, h))), refl)

elems_written : (es : List PatternElem) → IsInsideOfPattern (pattern_text es) es
elems_written [] = ([], refl, refl)
elems_written (e ∷ es) =
    let first = elem_written e in
    let others = elems_written es in (
      elem_piece e ∷ others.0,
      both_same (piece_elem (elem_piece e)) e (map piece_elem others.0) es first.1 others.1,
      (elem_text e, pattern_text es, refl, first.0, others.2),
    )
  where
    both_same : (a b : PatternElem) (xs ys : List PatternElem) → a ≡ b → xs ≡ ys → a ∷ xs ≡ b ∷ ys
    both_same a b xs ys h k = cc

pub pattern_written : (es : List PatternElem) → IsTrue (has_scalars es) → IsInsideOfPattern (chars (encode_utf8_all (pattern_text es))) es
pattern_written es h =
    subst (λ cs. IsInsideOfPattern cs es)
    (sym (chars-encodes (pattern_text es) (elems_scalar es h))) (elems_written es)
