-- A text is cut into tokens in one way.
use Rattle.std.proofs.Common.{◌≡◌, ℕ, ◌+◌, ◌-◌, ◌<◌, Bool, true, false, not, Some, List, [], ◌∷◌, ◌++◌, length, length-append, get_or, refl, sym, ◌∙◌, ap, subst, arith}
use Rattle.std.specs.Bool.{◌==◌}
use Rattle.std.specs.Char.{encode_utf8, is_ascii_digit, is_whitespace}
use Rattle.std.proofs.lemmas.Bool.{false≢true}
use Rattle.std.proofs.lemmas.Bool.Decides.{nat_tests}
use Rattle.std.proofs.lemmas.List.{nil_from_length}
use Rattle.std.proofs.lemmas.Option.{some_pair_parts}
use Rattle.std.proofs.lemmas.Str.{NoCharPasses-byte, char_from_byte, encode_same, len_utf8_bounds, length-encode}
use Rattle.std.proofs.Math.Seq.{get_or-append_seam}
use Rattle.std.specs.Prelude.{◌&&◌, nat_lt}
use Rattle.cedar_lexer.proofs.BlankLemmas.{comment_followed, end_is_low, no_blank_left, rest_fits}
use Rattle.cedar_lexer.proofs.FirstPieceLemmas.{both}
use Rattle.cedar_lexer.proofs.FirstTokenLemmas.{at_digit, at_letter, at_quote, at_sign, at_slot, sign_there}
use Rattle.cedar_lexer.proofs.Signs.{begins_sign, found_passes, is_sign, sign_fits, sign_kept}
use Rattle.cedar_lexer.specs.FirstTokens.{full_kind, lexeme_at, or_else, sign_of}
use Rattle.cedar_lexer.specs.Grammar.{HasNoToken, IsTokenText, begins_word, word, digits, slot, quoted, sign}
use Rattle.cedar_lexer.specs.TokenKinds.{sign_kind_of, signs}
use Rattle.cedar_lexer.specs.TokenPlaces.{AreSame, AreTokens, AreTokensBefore, IsSame, IsStuckIn, IsTokenAt}
use Rattle.cedar_lexer.specs.declared.parse_failure.ParseFailure.{ParseFailure}
use Rattle.cedar_lexer.specs.declared.parse_failure.ParseFailure.TheVariants as failure
use Rattle.cedar_lexer.specs.declared.token.TokenKind.{TokenKind}
use Rattle.cedar_lexer.specs.declared.token.TokenKind.TheVariants as kinds
use Rattle.cedar_lexer.specs.declared.token.Token.{Token}
use Rattle.cedar_lexer.specs.Blanks.{BeginsComment, HasBlanks, HasNoBlank, IsInLine, ends_line, nothing, space, comment, last_comment}

-- ---- blanks

-- the text begins with a character of white space, and then this
abbrev BeginsSpace : List ℕ → List ℕ → Type 0
BeginsSpace text rest = (c : ℕ) × (is_whitespace c ≡ true) × (text ≡ encode_utf8 c ++ rest)

space_is_no_slash : (text rest : List ℕ) → BeginsSpace text rest → BeginsComment text → ⊥
space_is_no_slash text rest s k =
    let first : get_or text 0 0 ≡ 47 = ap (λ t. get_or t 0 0) k.1 in
    let some : 0 < length text = omega (arith, ap length k.1) in
    let c = char_from_byte text rest s.0 s.2 (omega (arith, first)) some in
    let none : is_whitespace 47 ≡ true = subst (λ d. is_whitespace d ≡ true) (c ∙ first) s.1 in
    false≢true none

-- each byte does not end a line
abbrev HasNoEnd : List ℕ → Type 0
HasNoEnd line = (c : ℕ) (front more : List ℕ) → ends_line c ≡ true → line ≡ front ++ (c ∷ more) → ⊥

-- nothing that ends a line is in one
no_end_in : (line : List ℕ) → IsInLine line → HasNoEnd line
no_end_in line i c front more ends e =
    let l : length line ≡ length front + length (c ∷ more) = ap length e ∙ length-append front (c ∷ more) in
    let here : get_or line (length front) 0 ≡ c = ap (λ t. get_or t (length front) 0) e ∙ get_or-append_seam front c more 0 in
    let none = NoCharPasses-byte ends_line line (length front) i (omega arith) (omega (arith, here, end_is_low c ends)) in
    false≢true (sym none ∙ (ap ends_line here ∙ ends))

tail_has_none : (b : ℕ) (line : List ℕ) → HasNoEnd (b ∷ line) → HasNoEnd line
tail_has_none b line h c front more ends e = h c (b ∷ front) more ends (ap (λ t. b ∷ t) e)

-- what stands behind the first line
same_line : (line one : List ℕ) (c d : ℕ) (more two : List ℕ) → HasNoEnd line → HasNoEnd one → ends_line c ≡ true → ends_line d ≡ true
    → line ++ (c ∷ more) ≡ one ++ (d ∷ two) → more ≡ two
same_line [] [] c d more two h k x y e = cc
same_line [] (b ∷ one) c d more two h k x y e = let q : c ≡ b = cc in absurd (k c [] one x (ap (λ a. a ∷ one) (sym q)))
same_line (a ∷ line) [] c d more two h k x y e = let q : a ≡ d = cc in absurd (h d [] line y (ap (λ b. b ∷ line) q))
same_line (a ∷ line) (b ∷ one) c d more two h k x y e =
    let t : line ++ (c ∷ more) ≡ one ++ (d ∷ two) = cc in
    same_line line one c d more two (tail_has_none a line h) (tail_has_none b one k) x y t

-- blanks that stand before are no end
not_here : (text rest : List ℕ) → HasNoBlank text → HasBlanks text rest → length rest < length text → ⊥
not_here text rest none h l = let e : length rest ≡ length text = ap length (none rest h) in omega arith

after_space : {text c : List ℕ} → HasBlanks text c → (rest : List ℕ) → BeginsSpace text rest → HasNoBlank c → HasBlanks rest c
after_space (nothing text) rest s none =
    let b : HasBlanks text rest =
    subst (λ t. HasBlanks t rest) (sym s.2) (space s.0 rest rest s.1 (nothing rest)) in
    let l : length text ≡ length (encode_utf8 s.0) + length rest = ap length s.2 ∙ length-append (encode_utf8 s.0) rest in
    absurd (not_here text rest none b (omega (arith, l, length-encode s.0, (len_utf8_bounds s.0).0)))
after_space (space d text c w h) rest s none = subst (λ t. HasBlanks t c) (encode_same d s.0 text rest s.2).1 h
after_space (comment line d text c b i e h) rest s none =
    absurd (space_is_no_slash (line ++ (d ∷ text)) rest s (comment_followed line (d ∷ text) b))
after_space (last_comment line b i) rest s none = absurd (space_is_no_slash line rest s b)

-- the text begins with a comment and what ends it, and then this
abbrev BeginsLine : List ℕ → List ℕ → Type 0
BeginsLine text rest = (line : List ℕ) × (c : ℕ) × BeginsComment line × IsInLine line × (ends_line c ≡ true) × (text ≡ line ++ (c ∷ rest))

after_line : {text c : List ℕ} → HasBlanks text c → (rest : List ℕ) → BeginsLine text rest → HasNoBlank c → HasBlanks rest c
after_line (nothing text) rest s none =
    let b : HasBlanks text rest =
    subst (λ t. HasBlanks t rest) (sym s.5) (comment s.0 s.1 rest rest s.2 s.3 s.4 (nothing rest)) in
    let l : length text ≡ length s.0 + length (s.1 ∷ rest) = ap length s.5 ∙ length-append s.0 (s.1 ∷ rest) in
    absurd (not_here text rest none b (omega arith))
after_line (space d text c w h) rest s none =
    absurd (space_is_no_slash (encode_utf8 d ++ text) text (d, w, refl)
    (subst BeginsComment (sym s.5) (comment_followed s.0 (s.1 ∷ rest) s.2)))
after_line (comment line d text c b i e h) rest s none =
    subst (λ t. HasBlanks t c)
    (same_line line s.0 d s.1 text rest (no_end_in line i) (no_end_in s.0 s.3) e s.4 s.5) h
after_line (last_comment line b i) rest s none = absurd (no_end_in line i s.1 s.0 rest s.4 s.5)

-- nothing stands behind a comment that nothing ends
after_last : {text c : List ℕ} → HasBlanks text c → BeginsComment text → IsInLine text → HasNoBlank c → c ≡ []
after_last (nothing text) b i none = sym (none [] (last_comment text b i))
after_last (space d text c w h) b i none = absurd (space_is_no_slash (encode_utf8 d ++ text) text (d, w, refl) b)
after_last (comment line d text c b' i' e h) b i none = absurd (no_end_in (line ++ (d ∷ text)) i d line text e refl)
after_last (last_comment line b' i') b i none = refl

-- blanks end in one place
pub blanks_one_way : {text b : List ℕ} → HasBlanks text b → HasNoBlank b → (c : List ℕ) → HasBlanks text c → HasNoBlank c → b ≡ c
blanks_one_way (nothing text) none c k done = sym (none c k)
blanks_one_way (space d text b w h) none c k done = blanks_one_way h none c (after_space k text (d, w, refl) done) done
blanks_one_way (comment line d text b q i e h) none c k done = blanks_one_way h none c (after_line k text (line, d, q, i, e, refl) done) done
blanks_one_way (last_comment line b i) none c k done = sym (after_last k b i done)

-- ---- what a token begins with

abbrev begins_one : ℕ → Bool
begins_one b = nat_lt b 128 && (not (is_whitespace b) && not (b == 47))

abbrev opens : List ℕ → Bool
opens [] = false
opens (b ∷ bs) = begins_one b

letter_opens : (b : ℕ) → begins_word b ≡ true → begins_one b ≡ true
letter_opens b h = grind (arith, nat_tests)

digit_opens : (b : ℕ) → is_ascii_digit b ≡ true → begins_one b ≡ true
digit_opens b h = grind (arith, nat_tests)

token_opens : {v : List ℕ} {kind : TokenKind} → IsTokenText v kind → opens v ≡ true
token_opens (word b bs h all) = letter_opens b h
token_opens (digits b bs h all) = digit_opens b h
token_opens (slot bs all) = refl
token_opens (quoted inside h) = refl
token_opens (sign s kind e) = found_passes (λ x. opens x.0) s kind signs refl e

-- no blank begins so
no_blank_opens : (v rest : List ℕ) → opens v ≡ true → HasNoBlank (v ++ rest)
no_blank_opens [] rest h later k = absurd (false≢true h)
no_blank_opens (b ∷ v) rest h later k =
    let first = both (nat_lt b 128) (not (is_whitespace b) && not (b == 47)) h in
    let other = both (not (is_whitespace b)) (not (b == 47)) first.1 in
    let small : b < 128 = below b first.0 in
    no_blank_left k
    (λ c more w e.
    let same : c ≡ b = char_from_byte (b ∷ (v ++ rest)) more c e small (omega arith) in
    false≢true (sym (ap not (subst (λ d. is_whitespace d ≡ true) same w)) ∙ other.0))
    (λ s. no_slash b (ap (λ t. get_or t 0 0) s.1) other.1)
  where
    below : (b : ℕ) → nat_lt b 128 ≡ true → b < 128
    below b h = grind (arith, nat_tests)

    no_slash : (b : ℕ) → b ≡ 47 → not (b == 47) ≡ true → ⊥
    no_slash b e h = grind (arith, nat_tests)

token_no_blank : (v text rest : List ℕ) (kind : TokenKind) → IsTokenText v kind → text ≡ v ++ rest → HasNoBlank text
token_no_blank v text rest kind t e = subst HasNoBlank (sym e) (no_blank_opens v rest (token_opens t))

-- ---- the kind of a token

abbrev HasKind : List ℕ → TokenKind → Type 0
HasKind v kind = (k : TokenKind) × (m : ℕ) × (lexeme_at v ≡ Some (k, m)) × (full_kind k v ≡ kind)

sign_kind_found : (s : List ℕ) (kind : TokenKind) → sign_kind_of s ≡ Some kind → is_sign s ≡ true → full_kind kind s ≡ kind → HasKind s kind
sign_kind_found [] kind e h f = absurd (false≢true h)
sign_kind_found (a ∷ []) kind e h f = (kind, 1, at_sign a [] h ∙ sign_there 1 (a ∷ []) (a ∷ []) [] kind refl refl e, f)
sign_kind_found (a ∷ b ∷ []) kind e h f = (
  kind,
  2,
  at_sign a (b ∷ []) (both (begins_sign a) (nat_lt b 128) h).0
      ∙ ap (λ o. or_else o (sign_of 1 (a ∷ b ∷ []))) (sign_there 2 (a ∷ b ∷ []) (a ∷ b ∷ []) [] kind refl refl e),
  f,
)
sign_kind_found (a ∷ b ∷ c ∷ s) kind e h f = absurd (false≢true h)

kind_found : {v : List ℕ} {kind : TokenKind} → IsTokenText v kind → HasKind v kind
kind_found (word b bs h all) = (kinds.Word, _, at_letter b bs h, refl)
kind_found (digits b bs h all) = (kinds.Digits, _, at_digit b bs h, refl)
kind_found (slot bs all) = (kinds.Slot, _, at_slot bs, refl)
kind_found (quoted inside h) = (kinds.Quoted, _, at_quote inside [] h, refl)
kind_found (sign s kind e) = let fits = sign_fits s kind e in sign_kind_found s kind e fits.0 (sign_kept kind s fits.1)

kind_one_way : (v : List ℕ) (j k : TokenKind) → IsTokenText v j → IsTokenText v k → j ≡ k
kind_one_way v j k s t =
    let f = kind_found s in
    let g = kind_found t in
    let same = some_pair_parts f.0 g.0 f.1 g.1 (sym f.2 ∙ g.2) in sym f.3 ∙ (ap (λ i. full_kind i v) same.0 ∙ g.3)

-- ---- tokens

cut_once : (xs ys l m : List ℕ) → length xs ≡ length ys → xs ++ l ≡ ys ++ m → (xs ≡ ys) × (l ≡ m)
cut_once [] [] l m n e = (refl, e)
cut_once [] (y ∷ ys) l m n e = absurd (omega arith)
cut_once (x ∷ xs) [] l m n e = absurd (omega arith)
cut_once (x ∷ xs) (y ∷ ys) l m n e =
    let head : x ≡ y = cc in
    let tail : xs ++ l ≡ ys ++ m = cc in
    let h = cut_once xs ys l m (omega arith) tail in (ap (λ b. b ∷ xs) head ∙ ap (λ t. y ∷ t) h.0, h.1)

token_one_way : (at : ℕ) (text l m : List ℕ) (t u : Token) → IsTokenAt at text t l → IsTokenAt at text u m → IsSame t u × (l ≡ m)
token_one_way at text l m t u h k =
    let a = h.5 u.text.now m u.kind k.4 k.3 in
    let b = k.5 t.text.now l t.kind h.4 h.3 in
    let w = cut_once t.text.now u.text.now l m (omega arith) (sym h.3 ∙ k.3) in
    let same = subst (λ v. IsTokenText v u.kind) (sym w.0) k.4 in
    ((kind_one_way t.text.now t.kind u.kind h.4 same, w.0, h.0 ∙ sym k.0, h.1 ∙ (ap (λ v. at + length v) w.0 ∙ sym k.1)), w.1)

-- nothing more can be taken of it
abbrev IsDone : List ℕ → Type 0
IsDone text = HasNoBlank text × HasNoToken text

one_way : (at : ℕ) (text r s : List ℕ) (ts us : List Token) → AreTokensBefore at text ts r → IsDone r → AreTokensBefore at text us s
    → IsDone s → AreSame ts us × (r ≡ s)
one_way at text r s [] [] h d k e = (tt, blanks_one_way h d.0 s k e.0)
one_way at text r s [] (u ∷ us) h d k e =
    let b = blanks_one_way h d.0 k.0 k.2 (token_no_blank u.text.now k.0 k.1 u.kind k.3.4 k.3.3) in
    absurd (d.1 u.text.now k.1 u.kind k.3.4 (b ∙ k.3.3))
one_way at text r s (t ∷ ts) [] h d k e =
    let b = blanks_one_way k e.0 h.0 h.2 (token_no_blank t.text.now h.0 h.1 t.kind h.3.4 h.3.3) in
    absurd (e.1 t.text.now h.1 t.kind h.3.4 (b ∙ h.3.3))
one_way at text r s (t ∷ ts) (u ∷ us) h d k e =
    let b =
    blanks_one_way h.2 (token_no_blank t.text.now h.0 h.1 t.kind h.3.4 h.3.3) k.0 k.2
    (token_no_blank u.text.now k.0 k.1 u.kind k.3.4 k.3.3) in
    let there = subst (λ x. IsTokenAt (at + (length text - length x)) x u k.1) (sym b) k.3 in
    let same = token_one_way (at + (length text - length h.0)) h.0 h.1 k.1 t u h.3 there in
    let later =
    subst (λ i. AreTokensBefore i h.1 us s) (sym same.0.3) (subst (λ x. AreTokensBefore u.span.stop x us s) (sym same.1) k.4) in
    let more = one_way t.span.stop h.1 r s ts us h.4 d later e in
    ((same.0, more.0), more.1)

-- the end of a text
nothing_done : IsDone []
nothing_done = (
  λ rest h. let fits = rest_fits h in nil_from_length rest (omega arith),
  λ v rest kind t e.
      let l : length v + length rest ≡ 0 = sym (ap length e ∙ length-append v rest) in
      let none : v ≡ [] = nil_from_length v (omega arith) in
      false≢true (ap opens (sym none) ∙ token_opens t),
)

pub tokens_unique : (text : List ℕ) (ts us : List Token) → AreTokens text ts → AreTokens text us → AreSame ts us
tokens_unique text ts us h k = (one_way 0 text [] [] ts us h nothing_done k nothing_done).0

pub tokens_not_stuck : (text : List ℕ) (ts : List Token) (e : ParseFailure) → AreTokens text ts → IsStuckIn text e → e ≡ failure.Memory
tokens_not_stuck text ts (failure.Syntax span problem) h k =
    let end = (one_way 0 text [] k.1 ts k.0 h nothing_done k.2 (k.4, k.5.0)).1 in
    absurd (omega (arith, ap length end, k.3))
tokens_not_stuck text ts failure.Memory h k = refl
