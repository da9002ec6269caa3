-- TokenStream are found one by one.
use Rattle.std.proofs.Common.{◌≡◌, ℕ, ◌+◌, ◌-◌, ◌<◌, ◌≤◌, List, [], ◌∷◌, ◌++◌, length, length-append, sym, ◌∙◌, ap, subst, arith}
use Rattle.std.specs.Char.{encode_utf8, len_utf8}
use Rattle.std.specs.Str.{IsUtf8, chars, encode_utf8_all}
use Rattle.std.proofs.lemmas.List.{nil_from_length}
use Rattle.std.proofs.lemmas.Str.{encodes-chars, length-encode}
use Rattle.cedar_lexer.proofs.BlankLemmas.{parts_length, rest_fits}
use Rattle.cedar_lexer.specs.Blanks.{HasBlanks}
use Rattle.cedar_lexer.specs.TokenPlaces.{AreTokens, AreTokensBefore, IsTokenAt}
use Rattle.cedar_lexer.specs.declared.token.Token.{Token}

-- what is left is no longer than the text
pub tokens_fit : (at : ℕ) (text rest : List ℕ) (ts : List Token) → AreTokensBefore at text ts rest → length rest ≤ length text
tokens_fit at text rest [] h = rest_fits h
tokens_fit at text rest (t ∷ ts) h =
    let fits = rest_fits h.2 in
    let k = parts_length h.0 t.text.now h.1 h.3.3 in
    let l = tokens_fit t.span.stop h.1 rest ts h.4 in omega arith

-- one token more, and blanks
push : (at : ℕ) (text rest later next : List ℕ) (ts : List Token) (t : Token) → AreTokensBefore at text ts rest
    → IsTokenAt (at + (length text - length rest)) rest t later → HasBlanks later next → AreTokensBefore at text (ts ++ (t ∷ [])) next
push at text rest later next [] t h here s = (rest, later, h, here, s)
push at text rest later next (u ∷ us) t h here s =
    let fits = rest_fits h.2 in
    let k = parts_length h.0 u.text.now h.1 h.3.3 in
    let l = tokens_fit u.span.stop h.1 rest us h.4 in
    let e : at + (length text - length rest) ≡ u.span.stop + (length h.1 - length rest) = omega (arith, h.3.1) in
    (h.0, h.1, h.2, h.3, push u.span.stop h.1 rest later next us t h.4 (subst (λ a. IsTokenAt a rest t later) e here) s)

pub tokens_begin : (text rest : List ℕ) (ts : List Token) → ts ≡ [] → HasBlanks text rest → AreTokensBefore 0 text ts rest
tokens_begin text rest ts none s = subst (λ xs. AreTokensBefore 0 text xs rest) (sym none) s

pub tokens_go_on : (text rest later next : List ℕ) (ts new : List Token) (t : Token) → AreTokensBefore 0 text ts rest
    → IsTokenAt (length text - length rest) rest t later → HasBlanks later next → new ≡ ts ++ (t ∷ []) → AreTokensBefore 0 text new next
tokens_go_on text rest later next ts new t before here s n =
    let z : length text - length rest ≡ 0 + (length text - length rest) = omega arith in
    subst (λ xs. AreTokensBefore 0 text xs next) (sym n)
    (push 0 text rest later next ts t before (subst (λ a. IsTokenAt a rest t later) z here) s)

-- what is left gets shorter
pub next_shorter : (rest later next : List ℕ) (at : ℕ) (t : Token) → IsTokenAt at rest t later → HasBlanks later next
    → length next < length rest
next_shorter rest later next at t here s =
    let small = rest_fits s in
    let k = parts_length rest t.text.now later here.3 in omega (arith, here.2)

pub tokens_end : (text rest : List ℕ) (ts : List Token) → AreTokensBefore 0 text ts rest → length rest ≡ 0 → AreTokens text ts
tokens_end text rest ts before none = subst (λ r. AreTokensBefore 0 text ts r) (nil_from_length rest none) before

-- the first character is no longer than the text
pub first_fits : (text cs : List ℕ) (c : ℕ) → IsUtf8 text → chars text ≡ c ∷ cs → len_utf8 c ≤ length text
first_fits text cs c u e =
    let l = length-append (encode_utf8 c) (encode_utf8_all cs) in
    let whole = ap length (sym (ap encode_utf8_all e) ∙ encodes-chars text u) in omega (arith, l, whole, length-encode c)
