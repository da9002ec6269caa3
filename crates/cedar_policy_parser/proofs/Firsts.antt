-- What tokens begin with, and what is left behind it.
use Rattle.std.proofs.Common.{◌≡◌, ◌↔◌, ◌+◌, ℕ, suc, Bool, true, false, not, List, [], ◌∷◌, ◌++◌, length, length-append, IsOk, IsSome, Option, Result, Ok, Err, refl, sym, ◌∙◌, ap, subst, arith}
use Rattle.std.specs.Prelude.{◌≢◌}
use Rattle.std.proofs.lemmas.Bool.{false≢true}
use Rattle.cedar_lexer.specs.Groups.{IsCutAt, Passes, passed, single, pair, ends, kinds_of}
use Rattle.cedar_lexer.specs.TokenStreams.{BeginsWith, end_of, first_or, next_of, rest_of}
use Rattle.cedar_lexer.specs.declared.parse_failure.ParseFailure.{ParseFailure}
use Rattle.cedar_lexer.specs.declared.parse_failure.ParseFailure.TheVariants as failure
use Rattle.cedar_lexer.specs.declared.token.Token.{Token}
use Rattle.cedar_lexer.specs.declared.token.TokenKind.{TokenKind}
use Rattle.cedar_lexer.specs.declared.token.TokenKind.TheVariants as kinds
use Rattle.cedar_lexer.specs.declared.token_stream.TokenStream.{TokenStream}
use Rattle.semantics_grammar.specs.Lexemes.{Lexeme, lexeme, kind_of, kinds_of_lexemes, lexemes_of}
use Rattle.cedar_parser.specs.Meant.{HasEnd, here}
use Rattle.cedar_policy_parser.specs.Complete.{Begins, Gives, IsEnd}

begins_here : (k : TokenKind) (ts : List Token) → Begins k (lexemes_of ts) → BeginsWith k ts
begins_here k [] h = h
begins_here k (t ∷ ts) h = h

-- what is there is taken
pub maybe_present : (k : TokenKind) (o : Option Token) (old : TokenStream) → (IsSome o ↔ BeginsWith k (rest_of old)) → Begins k (here old) → IsSome o
maybe_present k o old e b = e.1 (begins_here k (rest_of old) b)

pub wanted_present : (k : TokenKind) (r : Result Token ParseFailure) (old : TokenStream) → (IsOk r ↔ BeginsWith k (rest_of old)) → Begins k (here old) → IsOk r
wanted_present k r old e b = e.1 (begins_here k (rest_of old) b)

next_in : (end : Token) (ts : List Token) (k : TokenKind) → end.kind ≡ kinds.End → k ≢ kinds.End → (first_or end ts).kind ≡ k → Begins k (lexemes_of ts)
next_in end [] k e n h = absurd (n (sym h ∙ e))
next_in end (t ∷ ts) k e n h = h

-- the next token is of this kind
pub next_begins : (t : TokenStream) (k : TokenKind) → HasEnd t → k ≢ kinds.End → (next_of t).kind ≡ k → Begins k (here t)
next_begins t k e n h = next_in (end_of t) (rest_of t) k e n h

next_of_begins : (end : Token) (ts : List Token) (k : TokenKind) → Begins k (lexemes_of ts) → (first_or end ts).kind ≡ k
next_of_begins end [] k h = absurd h
next_of_begins end (t ∷ ts) k h = h

-- it is not
pub begins_next : (t : TokenStream) (k : TokenKind) → (next_of t).kind ≢ k → Begins k (here t) → ⊥
begins_next t k n h = n (next_of_begins (end_of t) (rest_of t) k h)

abbrev tail_of : List Lexeme → List Lexeme
tail_of [] = []
tail_of (l ∷ ts) = ts

pub tail_is : (l m : Lexeme) (ts us : List Lexeme) → l ∷ ts ≡ m ∷ us → ts ≡ us
tail_is l m ts us e = ap tail_of e

abbrev text_in : List Lexeme → List ℕ
text_in [] = []
text_in (lexeme k w ∷ ts) = w

-- a token is taken, and the rest is left
pub taken_rest : {k j : TokenKind} {w v : List ℕ} {t0 t1 rest : List Lexeme} → t0 ≡ lexeme k w ∷ t1 → t0 ≡ lexeme j v ∷ rest → t1 ≡ rest
taken_rest {k = k} {j = j} {w = w} {v = v} {t1 = t1} {rest = rest} h e = tail_is (lexeme k w) (lexeme j v) t1 rest (sym h ∙ e)

pub taken_text : {k j : TokenKind} {w v : List ℕ} {t0 t1 rest : List Lexeme} → t0 ≡ lexeme k w ∷ t1 → t0 ≡ lexeme j v ∷ rest → w ≡ v
taken_text h e = ap text_in (sym h ∙ e)

pub begins_of : {k : TokenKind} {w : List ℕ} {t0 rest : List Lexeme} → t0 ≡ lexeme k w ∷ rest → Begins k t0
begins_of {k = k} e = subst (Begins k) (sym e) refl

-- the next token is the first one
pub kind_next : {k : TokenKind} {w : List ℕ} {rest : List Lexeme} (t : TokenStream) → here t ≡ lexeme k w ∷ rest → (next_of t).kind ≡ k
kind_next {k = k} t e = next_of_begins (end_of t) (rest_of t) k (begins_of e)

-- ---- answers

-- memory ran out
pub no_memory : {A B : Type 0} (f : A → B) (x : B) (rest : List Lexeme) (new : TokenStream) (r : Result A ParseFailure) (e : ParseFailure) → r ≡ Err e
    → e ≡ failure.Memory → Gives f x rest new r
no_memory f x rest new r e same m = subst (Gives f x rest new) (sym same) m

-- what is not among others is new
pub refused_new : (among is_new : Bool) → is_new ≡ not among → is_new ≡ false → among ≡ false → ⊥
refused_new among is_new e h a = false≢true (sym h ∙ (e ∙ ap not a))

-- what is answered, as it is put into something
pub given_as : {A B C : Type 0} (g : B → C) (f : A → B) (x : B) (y : C) (rest : List Lexeme) (new : TokenStream) (r : Result A ParseFailure) → y ≡ g x
    → Gives f x rest new r → Gives (λ a. g (f a)) y rest new r
given_as g f x y rest new (Ok a) e h = (ap g h.0 ∙ sym e, h.1)
given_as g f x y rest new (Err a) e h = h

-- ---- groups

kinds_same : (ts : List Token) → kinds_of ts ≡ kinds_of_lexemes (lexemes_of ts)
kinds_same [] = refl
kinds_same (t ∷ ts) = ap (λ ks. t.kind ∷ ks) (kinds_same ts)

kinds_append : (xs ys : List Lexeme) → kinds_of_lexemes (xs ++ ys) ≡ kinds_of_lexemes xs ++ kinds_of_lexemes ys
kinds_append [] ys = refl
kinds_append (x ∷ xs) ys = ap (λ ks. kind_of x ∷ ks) (kinds_append xs ys)

passes_before : {comma : Bool} {ks ls : List TokenKind} (rs : List TokenKind) → Passes comma ks ls → Passes comma (ks ++ rs) (ls ++ rs)
passes_before rs passed = passed
passes_before rs (single o e p) = single o e (passes_before rs p)
passes_before rs (pair o p c q) = pair o (passes_before rs p) c (passes_before rs q)

ends_inside : (k : TokenKind) → ends true k ≡ false → ends false k ≡ false
ends_inside kinds.CloseRound h = h
ends_inside kinds.CloseSquare h = h
ends_inside kinds.CloseCurly h = h
ends_inside kinds.Comma h = refl
ends_inside k h = refl

-- inside brackets commas may stand
pub loosened : (comma : Bool) {ks ls : List TokenKind} → Passes true ks ls → Passes comma ks ls
loosened comma passed = passed
loosened true p = p
loosened false (single {k = k} o e p) = single o (ends_inside k e) (loosened false p)
loosened false (pair o p c q) = pair o p c (loosened false q)

count_kinds : (ts : List Lexeme) → length (kinds_of_lexemes ts) ≡ length ts
count_kinds [] = refl
count_kinds (t ∷ ts) = ap suc (count_kinds ts)

abbrev head_or : Lexeme → List Lexeme → Lexeme
head_or d [] = d
head_or d (l ∷ ts) = l

two : (x y : Lexeme) (a c : List Lexeme) → x ≡ y → a ≡ c → x ∷ a ≡ y ∷ c
two x y a c e f = ap (λ l. l ∷ a) e ∙ ap (λ t. y ∷ t) f

suffix_same : (a b c d : List Lexeme) → a ++ b ≡ c ++ d → length b ≡ length d → (a ≡ c) × (b ≡ d)
suffix_same [] b [] d e l = (refl, e)
suffix_same [] b (y ∷ c) d e l =
    let n : length b ≡ suc (length c + length d) = ap length e ∙ ap suc (length-append c d) in absurd (omega (arith, n, l))
suffix_same (x ∷ a) b [] d e l =
    let n : suc (length a + length b) ≡ length d = ap suc (sym (length-append a b)) ∙ ap length e in absurd (omega (arith, n, l))
suffix_same (x ∷ a) b (y ∷ c) d e l =
    let t = suffix_same a b c d (tail_is x y (a ++ b) (c ++ d) e) l in (two x y a c (ap (head_or x) e) t.0, t.1)

pub group_cut : (comma : Bool) (group old new : TokenStream) (expr rest : List Lexeme) → here old ≡ here group ++ here new
    → IsCutAt comma (kinds_of (rest_of old)) (kinds_of (rest_of new)) → here old ≡ expr ++ rest → Passes true (kinds_of_lexemes expr) []
    → IsEnd comma rest → (here group ≡ expr) × (here new ≡ rest)
group_cut comma group old new expr rest all cut split whole end =
    let kinds : kinds_of (rest_of old) ≡ kinds_of_lexemes expr ++ kinds_of_lexemes rest =
    kinds_same (rest_of old) ∙ (ap kinds_of_lexemes split ∙ kinds_append expr rest) in
    let left : kinds_of (rest_of new) ≡ kinds_of_lexemes rest =
    cut (kinds_of_lexemes rest)
    (subst (λ ks. Passes comma ks (kinds_of_lexemes rest)) (sym kinds) (passes_before (kinds_of_lexemes rest) (loosened comma whole))) end in
    let count : length (here new) ≡ length rest =
    sym (count_kinds (here new)) ∙ (ap length (sym (kinds_same (rest_of new)) ∙ left) ∙ count_kinds rest) in
    suffix_same (here group) (here new) expr rest (sym all ∙ split) count
