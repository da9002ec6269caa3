-- The tokens of a text are in order, and end within it.
use Rattle.std.proofs.Common.{◌≡◌, ℕ, suc, ◌+◌, ◌-◌, ◌≤◌, List, [], ◌∷◌, ◌++◌, length, length-append, sym, ◌∙◌, ap, subst, arith}
use Rattle.std.specs.Prelude.{slice_get}
use Rattle.std.specs.Char.{encode_utf8}
use Rattle.std.specs.Option.{option_map_or}
use Rattle.cedar_lexer.specs.Blanks.{HasBlanks, nothing, space, comment, last_comment}
use Rattle.cedar_lexer.specs.TokenStreams.{IsEndBehind, end_of, last_stop, rest_of}
use Rattle.cedar_lexer.specs.TokenPlaces.{AreTokens, AreTokensBefore, IsStuckIn}
use Rattle.cedar_lexer.specs.declared.parse_failure.ParseFailure.{ParseFailure}
use Rattle.cedar_lexer.specs.declared.parse_failure.ParseFailure.TheVariants as failure
use Rattle.cedar_lexer.specs.declared.token.Token.{Token}
use Rattle.cedar_lexer.specs.declared.token_stream.TokenStream.{TokenStream}
use Rattle.cedar_parser.proofs.InOrder.{before}
use Rattle.cedar_parser.specs.Refused.{AreInOrder, IsBefore, IsWithin, stop_of}

blanks_fit : {text rest : List ℕ} → HasBlanks text rest → length rest ≤ length text
blanks_fit (nothing text) = omega arith
blanks_fit (space c text rest w h) =
    let fits = blanks_fit h in
    let l = length-append (encode_utf8 c) text in omega arith
blanks_fit (comment line c text rest b i e h) =
    let fits = blanks_fit h in
    let l = length-append line (c ∷ text) in omega arith
blanks_fit (last_comment line b i) = omega arith

parts_length : (text front back : List ℕ) → text ≡ front ++ back → length text ≡ length front + length back
parts_length text front back e = ap length e ∙ length-append front back

-- what is left is no longer than the text
left_fits : (at : ℕ) (text rest : List ℕ) (ts : List Token) → AreTokensBefore at text ts rest → length rest ≤ length text
left_fits at text rest [] h = blanks_fit h
left_fits at text rest (t ∷ ts) h =
    let fits = blanks_fit h.2 in
    let k = parts_length h.0 t.text.now h.1 h.3.3 in
    let l = left_fits t.span.stop h.1 rest ts h.4 in omega arith

-- the last of one token more
last_more : (t u : Token) (us : List Token) → last_stop (t ∷ u ∷ us) ≡ last_stop (u ∷ us)
last_more t u us =
    let e : length (t ∷ u ∷ us) - 1 ≡ suc (length us) = omega arith in
    let f : length us ≡ length (u ∷ us) - 1 = omega arith in
    ap (λ n. option_map_or (λ (v : Token). v.span.stop) (slice_get (t ∷ u ∷ us) n) 0) e
    ∙ ap (λ n. option_map_or (λ (v : Token). v.span.stop) (slice_get (u ∷ us) n) 0) f

in_order : (at : ℕ) (text rest : List ℕ) (ts : List Token) (end : Token) → AreTokensBefore at text ts rest
    → last_stop ts ≤ end.span.start → end.span.start ≤ end.span.stop → AreInOrder end ts
in_order at text rest [] end h l p = p
in_order at text rest (t ∷ []) end h l p = (omega (arith, h.3.0, h.3.1), l, p)
in_order at text rest (t ∷ u ∷ us) end h l p =
    let m = last_more t u us in
    (omega (arith, h.3.0, h.3.1), omega (arith, h.4.3.0), in_order t.span.stop h.1 rest (u ∷ us) end h.4 (omega (arith, m, l)) p)

last_fits : (at : ℕ) (text rest : List ℕ) (ts : List Token) → AreTokensBefore at text ts rest → last_stop ts ≤ at + length text
last_fits at text rest [] h = omega arith
last_fits at text rest (t ∷ []) h =
    let fits = blanks_fit h.2 in
    let k = parts_length h.0 t.text.now h.1 h.3.3 in omega (arith, h.3.0, h.3.1, k, fits)
last_fits at text rest (t ∷ u ∷ us) h =
    let m = last_more t u us in
    let fits = blanks_fit h.2 in
    let k = parts_length h.0 t.text.now h.1 h.3.3 in
    let l = last_fits t.span.stop h.1 rest (u ∷ us) h.4 in omega (arith, h.3.0, h.3.1, k, fits, l, m)

pub all_before : (text : List ℕ) (ts : List Token) (tokens : TokenStream) → AreTokens text ts → rest_of tokens ≡ ts → IsEndBehind ts (end_of tokens)
    → IsBefore 0 tokens
all_before text ts tokens h r e =
    let o = in_order 0 text [] ts (end_of tokens) h (omega (arith, e.2)) (omega (arith, e.2, e.3)) in
    before 0 tokens (omega arith) (subst (AreInOrder (end_of tokens)) (sym r) o)

pub all_fit : (text : List ℕ) (ts : List Token) (tokens : TokenStream) → AreTokens text ts → IsEndBehind ts (end_of tokens)
    → stop_of tokens ≤ length text
all_fit text ts tokens h e = let l = last_fits 0 text [] ts h in omega (arith, l, e.3)

pub stuck_within : (text : List ℕ) (e : ParseFailure) → IsStuckIn text e → IsWithin (length text) e
stuck_within text (failure.Syntax span problem) h =
    let l = left_fits 0 text h.1 h.0 h.2 in
    (omega (arith, h.5.1.0, h.5.1.1), omega (arith, l, h.5.1.0, h.5.1.2))
stuck_within text failure.Memory h = h

-- what is refused within the tokens of a text is within the text
pub stopped_within : (text : List ℕ) (ts : List Token) (tokens : TokenStream) (e : ParseFailure) → AreTokens text ts → IsEndBehind ts (end_of tokens)
    → IsWithin (stop_of tokens) e → IsWithin (length text) e
stopped_within text ts tokens (failure.Syntax span problem) h b w = let l = all_fit text ts tokens h b in (w.0, omega (arith, w.1, l))
stopped_within text ts tokens failure.Memory h b w = w
