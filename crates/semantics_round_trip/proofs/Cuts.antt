-- A text in UTF-8 is cut into blanks and tokens that are in UTF-8.
use Rattle.std.proofs.Common.{◌≡◌, ℕ, suc, ◌<◌, ◌≤◌, ◌+◌, Bool, true, false, List, [], ◌∷◌, ◌++◌, Some, length, refl, sym, subst, ◌∙◌, ap, arith, IsUtf8, append_assoc}
use Rattle.std.specs.Prelude.{if◌then◌else◌, nat_lt, ⊤}
use Rattle.std.specs.Char.{IsScalar, encode_utf8, is_ascii_digit, is_whitespace}
use Rattle.std.specs.Cmp.Lexicographic.{bytes_decides}
use Rattle.std.specs.List.{list_all}
use Rattle.std.specs.Str.{IsCharBoundary, bytes_eq}
use Rattle.std.proofs.Math.Seq.{get_or-append_seam, take-append_seam, drop-append_seam}
use Rattle.std.proofs.lemmas.Bool.{false≢true}
use Rattle.std.proofs.lemmas.Bool.Decides.{nat_tests}
use Rattle.std.proofs.lemmas.List.{length-append}
use Rattle.std.proofs.lemmas.Option.{none-some}
use Rattle.std.proofs.lemmas.Str.{IsCharBoundary-after_ascii, IsCharBoundary-from_take, IsUtf8-drop, IsUtf8-encode, IsUtf8-nil, IsUtf8-take}
use lib.Utf8.{low_scalar}
use Rattle.cedar_lexer.specs.Blanks.{HasBlanks, nothing, space, comment, last_comment, ends_line}
use Rattle.cedar_lexer.specs.Grammar.{IsTokenText, begins_word, goes_on, word, digits, slot, quoted, sign}
use Rattle.cedar_lexer.specs.TokenKinds.{looked_up, signs}
use Rattle.cedar_lexer.specs.TokenPlaces.{AreTokensBefore}
use Rattle.cedar_lexer.specs.declared.token.Token.{Token}
use Rattle.cedar_lexer.specs.declared.token.TokenKind.{TokenKind}
use Rattle.semantics_grammar.specs.Lexemes.{lexemes_of}
use Rattle.semantics_round_trip.specs.Parsed.{AreTokenTexts}
use Rattle.semantics_round_trip.proofs.Texts.{both_of}

-- a text in UTF-8 that is cut at a character
cut : (w rest : List ℕ) → IsUtf8 (w ++ rest) → IsCharBoundary (w ++ rest) (length w) → IsUtf8 w × IsUtf8 rest
cut w rest h b = (
  subst IsUtf8 (take-append_seam w rest) (IsUtf8-take (w ++ rest) (length w) h b),
  subst IsUtf8 (drop-append_seam w rest) (IsUtf8-drop (w ++ rest) (length w) h b),
)

-- whether the last byte is one of ASCII
abbrev ends_small : List ℕ → Bool
ends_small [] = false
ends_small (b ∷ []) = nat_lt b 128
ends_small (b ∷ c ∷ bs) = ends_small (c ∷ bs)

-- the bytes up to the last, and that
abbrev IsBehind : List ℕ → Type 0
IsBehind w = (v : List ℕ) × (c : ℕ) × (w ≡ v ++ (c ∷ [])) × (c < 128)

small : (c : ℕ) → nat_lt c 128 ≡ true → c < 128
small c h = grind (arith, nat_tests)

last_of : (w : List ℕ) → ends_small w ≡ true → IsBehind w
last_of [] h = absurd (false≢true h)
last_of (b ∷ []) h = ([], b, refl, small b h)
last_of (b ∷ c ∷ bs) h = let x = last_of (c ∷ bs) h in (b ∷ x.0, x.1, ap (λ l. b ∷ l) x.2, x.3)

-- a text in UTF-8 that is cut behind a byte of ASCII
cut_behind : (v : List ℕ) (c : ℕ) (rest : List ℕ) → c < 128 → IsUtf8 (v ++ (c ∷ rest)) → IsUtf8 (v ++ (c ∷ [])) × IsUtf8 rest
cut_behind v c rest lt h =
    let text : List ℕ = v ++ (c ∷ rest) in
    let same : (v ++ (c ∷ [])) ++ rest ≡ text = append_assoc v (c ∷ []) rest in
    let long : length (v ++ (c ∷ [])) ≡ length v + 1 = length-append v (c ∷ []) in
    let all : length text ≡ length v + suc (length rest) = length-append v (c ∷ rest) in
    let at : IsCharBoundary text (length v + 1) =
    IsCharBoundary-after_ascii text (length v) h (omega (arith, all)) (omega (arith, lt, get_or-append_seam v c rest 0)) in
    cut (v ++ (c ∷ [])) rest (subst IsUtf8 (sym same) h)
    (subst (λ n. IsCharBoundary ((v ++ (c ∷ [])) ++ rest) n) (sym long) (subst (λ t. IsCharBoundary t (length v + 1)) (sym same) at))

cut_small : (w rest : List ℕ) → ends_small w ≡ true → IsUtf8 (w ++ rest) → IsUtf8 w × IsUtf8 rest
cut_small w rest h u =
    let x = last_of w h in
    let same : w ++ rest ≡ x.0 ++ (x.1 ∷ rest) = ap (λ l. l ++ rest) x.2 ∙ append_assoc x.0 (x.1 ∷ []) rest in
    let y = cut_behind x.0 x.1 rest x.3 (subst IsUtf8 same u) in
    (subst IsUtf8 (sym x.2) y.0, y.1)

-- ---- tokens

goes_small : (b : ℕ) → goes_on b ≡ true → nat_lt b 128 ≡ true
goes_small b h = grind (arith, nat_tests)

begins_small : (b : ℕ) → begins_word b ≡ true → nat_lt b 128 ≡ true
begins_small b h = grind (arith, nat_tests)

digit_small : (b : ℕ) → is_ascii_digit b ≡ true → nat_lt b 128 ≡ true
digit_small b h = grind (arith, nat_tests)

all_small : (test : ℕ → Bool) → ((b : ℕ) → test b ≡ true → nat_lt b 128 ≡ true)
    → (b : ℕ) (bs : List ℕ) → nat_lt b 128 ≡ true → list_all test bs ≡ true → ends_small (b ∷ bs) ≡ true
all_small test f b [] h k = h
all_small test f b (c ∷ bs) h k = let x = both_of (test c) (list_all test bs) k in all_small test f c bs (f c x.0) x.1

-- each sign ends so
abbrev AllSmall : List (List ℕ × TokenKind) → Type 0
AllSmall [] = ⊤
AllSmall (e ∷ es) = (ends_small e.0 ≡ true) × AllSmall es

sign_small : (s : List ℕ) (k : TokenKind) (es : List (List ℕ × TokenKind)) → AllSmall es → looked_up s es ≡ Some k → ends_small s ≡ true
sign_small s k [] n e = absurd (none-some k e)
sign_small s k (x ∷ es) n e =
    elim (bytes_eq s x.0) as (λ v. bytes_eq s x.0 ≡ v → (if v then Some x.1 else looked_up s es) ≡ Some k → ends_small s ≡ true) [
      | true ↦ λ is f. subst (λ t. ends_small t ≡ true) (sym ((bytes_decides s x.0).0 is)) n.0
      | false ↦ λ is f. sign_small s k es n.1 f
    ] refl e

quote_small : (inside : List ℕ) (b : ℕ) → ends_small (b ∷ (inside ++ (34 ∷ []))) ≡ true
quote_small [] b = refl
quote_small (c ∷ cs) b = quote_small cs c

token_small : {w : List ℕ} {k : TokenKind} → IsTokenText w k → ends_small w ≡ true
token_small (word b bs h l) = all_small goes_on goes_small b bs (begins_small b h) l
token_small (digits b bs h l) = all_small is_ascii_digit digit_small b bs (digit_small b h) l
token_small (slot bs l) = all_small goes_on goes_small 63 bs refl l
token_small (quoted i h) = quote_small i 34
token_small (sign s k h) = sign_small s k signs (refl, (refl, (refl, (refl, (refl, (refl, (refl, (refl, (refl, (refl, (refl, (refl, (refl, (refl, (refl, (refl, (refl, (refl, (refl, (refl, (refl, (refl, (refl, (refl, tt)))))))))))))))))))))))) h

-- ---- blanks

line_small : (c : ℕ) → ends_line c ≡ true → c < 128
line_small c h = grind (arith, nat_tests)

space_small : (c : ℕ) → is_whitespace c ≡ true → c < 55296
space_small c h = grind (arith, nat_tests)

space_scalar : (c : ℕ) → is_whitespace c ≡ true → IsScalar c
space_scalar c h = low_scalar c (space_small c h)

blanks_cut : {text rest : List ℕ} → HasBlanks text rest → IsUtf8 text → IsUtf8 rest
blanks_cut (nothing text) u = u
blanks_cut (space c text rest is b) u =
    let w : List ℕ = encode_utf8 c in
    let short : length w ≤ length (w ++ text) = omega (arith, length-append w text) in
    let at = IsCharBoundary-from_take (w ++ text) (length w) u short
    (subst IsUtf8 (sym (take-append_seam w text)) (IsUtf8-encode c (space_scalar c is))) in
    blanks_cut b (cut w text u at).1
blanks_cut (comment line c text rest begins in_line is b) u = blanks_cut b (cut_behind line c text (line_small c is) u).1
blanks_cut (last_comment line begins in_line) u = IsUtf8-nil

-- the tokens of a text in UTF-8 are in UTF-8
pub tokens_cut : (at : ℕ) (text : List ℕ) (ts : List Token) (rest : List ℕ) → AreTokensBefore at text ts rest → IsUtf8 text → AreTokenTexts (lexemes_of ts)
tokens_cut at text [] rest h u = tt
tokens_cut at text (t ∷ ts) rest h u =
    let here = blanks_cut h.2 u in
    let x = cut_small t.text.now h.1 (token_small h.3.4) (subst IsUtf8 h.3.3 here) in
    (h.3.4, x.0, tokens_cut t.span.stop h.1 ts rest h.4 x.1)
