-- Why the writer's text is the UTF-8 of the escape.
use Rattle.std.proofs.Common.{◌≡◌, ◌≢◌, ℕ, ◌<◌, ◌≤◌, ◌/◌, ◌%◌, List, [], ◌∷◌, ◌++◌, Bool, true, false, ◌&&◌, refl, sym, ◌∙◌, ap, arith, nat_lt}
use Rattle.std.specs.Char.{encode_utf8, is_ascii, is_ascii_control}
use Rattle.std.specs.Fmt.{digit_glyph}
use Rattle.std.specs.List.{list_all, flat_map}
use Rattle.std.specs.Prelude.{codes}
use Rattle.std.specs.Str.{IsUtf8, chars, encode_utf8_all}
use Rattle.std.proofs.lemmas.Bool.{false≢true}
use Rattle.std.proofs.lemmas.Bool.Decides.{nat_tests}
use Rattle.std.proofs.lemmas.Fmt.{hex_one_digit, hex_two_digits}
use Rattle.std.proofs.lemmas.Grind.{flat_map-append}
use Rattle.std.proofs.lemmas.List.Folds.{list_all-append}
use Rattle.std.specs.Cmp.Derive.{both_true}
use Rattle.std.proofs.lemmas.Str.{encode_ascii, encodes-append, encodes-chars}
use mathlib.Core.List.{append-nil}
use Rattle.cedar_terms.specs.Escape.{escape, escape_char, escaped, hexadecimal, is_plain}

pub and-left : (a b : Bool) → (a && b) ≡ true → a ≡ true
and-left true b h = refl
and-left false b h = absurd (false≢true h)

pub and-right : (a b : Bool) → (a && b) ≡ true → b ≡ true
and-right true b h = h
and-right false b h = absurd (false≢true h)

below_128 : (c : ℕ) → is_ascii c ≡ true → c < 128
below_128 c h = grind (arith, nat_tests)

-- ASCII is its own UTF-8
pub encode_all_ascii : (cs : List ℕ) → list_all is_ascii cs ≡ true → encode_utf8_all cs ≡ cs
encode_all_ascii [] h = refl
encode_all_ascii (c ∷ cs) h =
    ap (λ x. x ++ encode_utf8_all cs) (encode_ascii c (below_128 c (and-left (is_ascii c) (list_all is_ascii cs) h)))
    ∙ ap (λ x. c ∷ x) (encode_all_ascii cs (and-right (is_ascii c) (list_all is_ascii cs) h))

glyph_ascii : (d : ℕ) → d < 16 → is_ascii (digit_glyph false d) ≡ true
glyph_ascii d h = grind (arith, nat_tests)

one_glyph : (d : ℕ) → d < 16 → list_all is_ascii (digit_glyph false d ∷ []) ≡ true
one_glyph d h = both_true (glyph_ascii d h) refl

two_glyphs : (d e : ℕ) → d < 16 → e < 16 → list_all is_ascii (digit_glyph false d ∷ digit_glyph false e ∷ []) ≡ true
two_glyphs d e h k = both_true (glyph_ascii d h) (one_glyph e k)

hexadecimal_small : (c : ℕ) → c < 16 → list_all is_ascii (hexadecimal c) ≡ true
hexadecimal_small c h = ap (list_all is_ascii) (hex_one_digit false c h) ∙ one_glyph c h

hexadecimal_large : (c : ℕ) → 16 ≤ c → c < 256 → list_all is_ascii (hexadecimal c) ≡ true
hexadecimal_large c h k = ap (list_all is_ascii) (hex_two_digits false c h k) ∙ two_glyphs (c / 16) (c % 16) (omega arith) (omega arith)

pub hexadecimal_ascii : (c : ℕ) → c < 256 → list_all is_ascii (hexadecimal c) ≡ true
hexadecimal_ascii c h = elim (nat_lt c 16) as (λ v. nat_lt c 16 ≡ v → list_all is_ascii (hexadecimal c) ≡ true) [
  | true ↦ λ e. hexadecimal_small c (grind (arith, nat_tests))
  | false ↦ λ e. hexadecimal_large c (grind (arith, nat_tests)) h
] refl

-- a control without a letter of its own
pub escape_control : (c : ℕ) → is_ascii_control c ≡ true → c ≢ 0 → c ≢ 9 → c ≢ 10 → c ≢ 13 → escape_char c ≡ codes "\\u{" ++ (hexadecimal c ++ codes "}")
escape_control c h h0 h9 h10 h13 = grind (arith, nat_tests)

pub control_is_small : (c : ℕ) → is_ascii_control c ≡ true → c < 256
control_is_small c h = grind (arith, nat_tests)

pub encode_control : (c : ℕ) → is_ascii_control c ≡ true → c ≢ 0 → c ≢ 9 → c ≢ 10 → c ≢ 13 → encode_utf8_all (escape_char c) ≡ codes "\\u{" ++ (hexadecimal c ++ codes "}")
encode_control c h h0 h9 h10 h13 =
    ap encode_utf8_all (escape_control c h h0 h9 h10 h13)
    ∙ encode_all_ascii (codes "\\u{" ++ (hexadecimal c ++ codes "}"))
    (list_all-append is_ascii (hexadecimal c) (codes "}") ∙ both_true (hexadecimal_ascii c (control_is_small c h)) refl)

-- one item more
pub encode_flat_map-push : {X : Type 0} (f : X → List ℕ) (xs : List X) (x : X) → encode_utf8_all (flat_map f xs) ++ encode_utf8_all (f x) ≡ encode_utf8_all (flat_map f (xs ++ (x ∷ [])))
encode_flat_map-push f xs x =
    sym (encodes-append (flat_map f xs) (f x))
    ∙ ap (λ y. encode_utf8_all (flat_map f xs ++ y)) (sym (append-nil (f x)))
    ∙ ap encode_utf8_all (sym (flat_map-append f xs (x ∷ [])))

-- a character of ASCII that is plain is its own escape
plain_char : (c : ℕ) → is_plain c ≡ true → escape_char c ≡ c ∷ []
plain_char c h = grind (arith, nat_tests)

past_ascii : (c : ℕ) → 128 ≤ c → escape_char c ≡ c ∷ []
past_ascii c h = grind (arith, nat_tests)

plain_at : (c : ℕ) (rest : List ℕ) → list_all is_plain (encode_utf8 c ++ rest) ≡ true → escape_char c ≡ c ∷ []
plain_at c rest h = elim (nat_lt c 128) as (λ v. nat_lt c 128 ≡ v → escape_char c ≡ c ∷ []) [
  | true ↦ λ e. plain_char c (and-left (is_plain c) (list_all is_plain rest)
      (ap (λ x. list_all is_plain (x ++ rest)) (sym (encode_ascii c (grind (arith, nat_tests)))) ∙ h))
  | false ↦ λ e. past_ascii c (grind (arith, nat_tests))
] refl

plain_after : (c : ℕ) (rest : List ℕ) → list_all is_plain (encode_utf8 c ++ rest) ≡ true → list_all is_plain rest ≡ true
plain_after c rest h = and-right (list_all is_plain (encode_utf8 c)) (list_all is_plain rest)
    (sym (list_all-append is_plain (encode_utf8 c) rest) ∙ h)

plain_chars : (cs : List ℕ) → list_all is_plain (encode_utf8_all cs) ≡ true → escape cs ≡ cs
plain_chars [] h = refl
plain_chars (c ∷ cs) h =
    ap (λ x. x ++ escape cs) (plain_at c (encode_utf8_all cs) h)
    ∙ ap (λ x. c ∷ x) (plain_chars cs (plain_after c (encode_utf8_all cs) h))

-- a text of plain bytes is its own escape
pub plain_text : (text : List ℕ) → IsUtf8 text → list_all is_plain text ≡ true → escaped text ≡ text
plain_text text u h =
    ap encode_utf8_all (plain_chars (chars text) (ap (list_all is_plain) (encodes-chars text u) ∙ h))
    ∙ encodes-chars text u
