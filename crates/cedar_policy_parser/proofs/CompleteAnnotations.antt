-- Annotations: what is left of them, and what the next one is.
use Rattle.std.proofs.Common.{◌≡◌, ℕ, Bool, true, false, List, [], ◌∷◌, ◌++◌, map, append-nil, Result, refl, sym, ◌∙◌, ap, subst}
use Rattle.std.specs.Prelude.{IsTrue}
use Rattle.std.specs.Rc.{rc_str_bytes}
use Rattle.std.proofs.lemmas.Bool.{false≢true}
use Rattle.cedar_builders.specs.BareExpr.{Text}
use Rattle.cedar_builders.specs.Keys.{are_distinct, is_among}
use Rattle.cedar_lexer.specs.declared.parse_failure.ParseFailure.{ParseFailure}
use Rattle.cedar_lexer.specs.declared.token.TokenKind.{TokenKind}
use Rattle.cedar_lexer.specs.declared.token.TokenKind.TheVariants as kinds
use Rattle.cedar_lexer.specs.declared.token_stream.TokenStream.{TokenStream}
use Rattle.semantics_grammar.specs.Lexemes.{Lexeme, lexeme}
use Rattle.cedar_parser.specs.Meant.{here}
use Rattle.semantics_policies.specs.Grammar.{AreAnnotations, no_annotations, annotation, IsAnnotation, with_text, without_text, is_word_kind}
use Rattle.cedar_policies.specs.Policies.{bare_annotation}
use Rattle.cedar_policies.specs.declared.policy.Annotation.{Annotation}
use Rattle.cedar_policy_parser.specs.Annotations.{IsClosedText, keys_of}
use Rattle.cedar_policy_parser.specs.Complete.{Begins, Completes, Gives, IsAnnotationUpTo}
use Rattle.cedar_policy_parser.proofs.Firsts.{given_as, taken_rest, taken_text}
use Rattle.cedar_policy_parser.proofs.Keys.{apart}
use Rattle.cedar_policy_parser.proofs.Loops.{map_push}

-- ---- one annotation

-- behind the key: maybe a text in brackets
abbrev pub BehindKey : Text → List Lexeme → List Lexeme → Type 0
BehindKey t (lexeme kinds.OpenRound o ∷ ts) rest = IsClosedText ts t rest
BehindKey t ts rest = (ts ≡ rest) × (t ≡ [])

key_ends : (rest : List Lexeme) → (Begins kinds.OpenRound rest → ⊥) → BehindKey [] rest rest
key_ends [] free = (refl, refl)
key_ends (lexeme kinds.OpenRound o ∷ ts) free = absurd (free refl)
key_ends (lexeme k w ∷ ts) free = (refl, refl)

key_left : (t : Text) (ts rest : List Lexeme) → (Begins kinds.OpenRound ts → ⊥) → BehindKey t ts rest → (ts ≡ rest) × (t ≡ [])
key_left t [] rest free h = h
key_left t (lexeme kinds.OpenRound o ∷ ts) rest free h = absurd (free refl)
key_left t (lexeme k w ∷ ts) rest free h = h

-- `@`, a word, and what is left
record StartsWithAt (ts : List Lexeme) (a : Text × Text) (rest : List Lexeme) : Type 0 where
  pub at : List ℕ
  pub kind : TokenKind
  pub behind : List Lexeme
  pub first : ts ≡ lexeme kinds.At at ∷ lexeme kind a.0 ∷ behind
  pub word : is_word_kind kind ≡ true
  pub left : BehindKey a.1 behind rest

at_first : (ts : List Lexeme) (a : Text × Text) (rest : List Lexeme) → (Begins kinds.OpenRound rest → ⊥) → IsAnnotation ts a rest → StartsWithAt ts a rest
at_first ts a rest free (with_text {at = at} {k = k} {o = o} {q = q} {c = c} {kind = kind} w t) = record {
  at = at;
  kind = kind;
  behind = lexeme kinds.OpenRound o ∷ lexeme kinds.Quoted q ∷ lexeme kinds.CloseRound c ∷ rest;
  first = refl;
  word = w;
  left = record { quoted = q; bracket = c; split = refl; text = t };
}
at_first ts a rest free (without_text {at = at} {k = k} {kind = kind} w) =
    record { at = at; kind = kind; behind = rest; first = refl; word = w; left = key_ends rest free }

-- a word, and what is left
pub record StartsWithKey (ts : List Lexeme) (a : Text × Text) (rest : List Lexeme) : Type 0 where
  pub kind : TokenKind
  pub behind : List Lexeme
  pub first : ts ≡ lexeme kind a.0 ∷ behind
  pub word : is_word_kind kind ≡ true
  pub left : BehindKey a.1 behind rest

pub key_first : (ts : List Lexeme) (a : Text × Text) (rest : List Lexeme) → IsAnnotationUpTo ts a rest → StartsWithKey ts a rest
key_first ts a rest h =
    let s = at_first (lexeme kinds.At h.at ∷ ts) a rest h.ends h.annotation in
    record { kind = s.kind; behind = s.behind; first = taken_rest refl s.first; word = s.word; left = s.left }

-- a key and its text
abbrev pair_of : Text → Text → Text × Text
pair_of k t = (k, t)

-- the text that is answered behind the key
pub text_given : {A : Type 0} (f : A → Text) (kind : TokenKind) (key w o : List ℕ) (a : Text × Text) (t0 t1 rest : List Lexeme) (t2 t3 : TokenStream)
    (r : Result A ParseFailure) → key ≡ w → t0 ≡ lexeme kind w ∷ t1 → t1 ≡ lexeme kinds.OpenRound o ∷ here t2 → Completes f IsClosedText t2 t3 r
    → IsAnnotationUpTo t0 a rest → Gives (λ v. pair_of key (f v)) a rest t3 r
text_given f kind key w o a t0 t1 rest t2 t3 r e h i complete k =
    let s = key_first t0 a rest k in
    let b = subst (λ x. BehindKey a.1 x rest) (sym (taken_rest h s.first) ∙ i) s.left in
    let same : a.0 ≡ key = sym (e ∙ taken_text h s.first) in
    given_as (pair_of key) f a.1 a rest t3 r (ap (λ x. pair_of x a.1) same) (complete a.1 rest b)

-- no text is there
pub alone_given : (kind : TokenKind) (key value w : List ℕ) (a : Text × Text) (t0 t1 rest : List Lexeme) → key ≡ w → value ≡ []
    → t0 ≡ lexeme kind w ∷ t1 → (Begins kinds.OpenRound t1 → ⊥) → IsAnnotationUpTo t0 a rest → ((key, value) ≡ a) × (t1 ≡ rest)
alone_given kind key value w a t0 t1 rest e v h free k =
    let s = key_first t0 a rest k in
    let b = key_left a.1 t1 rest free (subst (λ x. BehindKey a.1 x rest) (sym (taken_rest h s.first)) s.left) in
    let same : key ≡ a.0 = e ∙ taken_text h s.first in
    let text : value ≡ a.1 = v ∙ sym b.1 in
    (ap (λ x. pair_of x value) same ∙ ap (pair_of a.0) text, b.0)

-- ---- several annotations

-- behind those that are parsed others stand
pub record AreAnnotationsLeft (done found : List (Text × Text)) (ts rest : List Lexeme) : Type 0 where
  pub more : List (Text × Text)
  pub all : found ≡ done ++ more
  pub left : AreAnnotations ts more rest

pub record IsNextAnnotation (done found : List (Text × Text)) (ts rest : List Lexeme) : Type 0 where
  pub next : Text × Text
  pub more : List (Text × Text)
  pub behind : List Lexeme
  pub all : found ≡ done ++ (next ∷ more)
  pub one : IsAnnotationUpTo ts next behind
  pub others : AreAnnotations behind more rest

begins_at : (a : Text × Text) (ts rest : List Lexeme) → IsAnnotation ts a rest → Begins kinds.At ts
begins_at a ts rest (with_text w t) = refl
begins_at a ts rest (without_text w) = refl

abbrev is_round : TokenKind → Bool
is_round kinds.OpenRound = true
is_round k = false

abbrev is_at : TokenKind → Bool
is_at kinds.At = true
is_at k = false

-- a token is of one kind
pub other_kind : (f : TokenKind → Bool) (j k : TokenKind) (ts : List Lexeme) → f j ≡ false → f k ≡ true → Begins j ts → Begins k ts → ⊥
other_kind f j k [] h i a b = a
other_kind f j k (lexeme l w ∷ ts) h i a b = false≢true (sym h ∙ (ap f (sym a ∙ b) ∙ i))

no_round : (xs : List (Text × Text)) (ts rest : List Lexeme) → Begins kinds.Word rest → AreAnnotations ts xs rest → Begins kinds.OpenRound ts → ⊥
no_round xs ts rest b no_annotations r = other_kind is_round kinds.Word kinds.OpenRound ts refl refl b r
no_round xs ts rest b (annotation {a = a} {us = us} h more) r = other_kind is_round kinds.At kinds.OpenRound ts refl refl (begins_at a ts us h) r

one_next : (done found more : List (Text × Text)) (w : List ℕ) (ts us rest : List Lexeme) → Begins kinds.Word rest → ts ≡ lexeme kinds.At w ∷ us
    → found ≡ done ++ more → AreAnnotations ts more rest → IsNextAnnotation done found us rest
one_next done found more w ts us rest b e all no_annotations =
    absurd (other_kind is_at kinds.Word kinds.At ts refl refl b (subst (Begins kinds.At) (sym e) refl))
one_next done found more w ts us rest b e all (annotation {a = a} {more = others} {us = xs} h left) = record {
  next = a;
  more = others;
  behind = xs;
  all = all;
  one = record { at = w; annotation = subst (λ x. IsAnnotation x a xs) e h; ends = no_round others xs rest b left };
  others = left;
}

pub annotation_next : (done found : List (Text × Text)) (w : List ℕ) (ts us rest : List Lexeme) → Begins kinds.Word rest → ts ≡ lexeme kinds.At w ∷ us
    → AreAnnotationsLeft done found ts rest → IsNextAnnotation done found us rest
annotation_next done found w ts us rest b e h = one_next done found h.more w ts us rest b e h.all h.left

none_next : (more : List (Text × Text)) (ts rest : List Lexeme) → (Begins kinds.At ts → ⊥) → AreAnnotations ts more rest → (more ≡ []) × (ts ≡ rest)
none_next more ts rest free no_annotations = (refl, refl)
none_next more ts rest free (annotation {a = a} {us = us} h left) = absurd (free (begins_at a ts us h))

pub annotations_given : (done found : List (Text × Text)) (ts rest : List Lexeme) → (Begins kinds.At ts → ⊥) → AreAnnotationsLeft done found ts rest
    → (done ≡ found) × (ts ≡ rest)
annotations_given done found ts rest free h =
    let n = none_next h.more ts rest free h.left in (sym (h.all ∙ (ap (λ l. done ++ l) n.0 ∙ append-nil done)), n.1)

-- those that are parsed, and one more
pub one_more : {A B : Type 0} (f : A → B) (xs new : List A) (x : A) (found more : List B) (y : B) → new ≡ xs ++ (x ∷ []) → f x ≡ y → found ≡ map f xs ++ (y ∷ more)
    → found ≡ map f new ++ more
one_more f xs new x found more y e i all =
    all ∙ (ap (λ z. map f xs ++ (z ∷ more)) (sym i) ∙ (sym (map_push f xs x more) ∙ ap (λ l. map f l ++ more) (sym e)))

pub annotation_more : (xs new : List Annotation) (x : Annotation) (found : List (Text × Text)) (us rest t2 : List Lexeme)
    → new ≡ xs ++ (x ∷ []) → (n : IsNextAnnotation (map bare_annotation xs) found us rest) → bare_annotation x ≡ n.next → t2 ≡ n.behind
    → AreAnnotationsLeft (map bare_annotation new) found t2 rest
annotation_more xs new x found us rest t2 e n i b = record {
  more = n.more;
  all = one_more bare_annotation xs new x found n.more n.next e i n.all;
  left = subst (λ y. AreAnnotations y n.more rest) (sym b) n.others;
}

abbrev key_in : Text × Text → Text
key_in a = a.0

bare_keys : (xs : List Annotation) (more : List (Text × Text)) → map key_in (map bare_annotation xs ++ more) ≡ keys_of xs ++ map key_in more
bare_keys [] more = refl
bare_keys (x ∷ xs) more = ap (λ l. rc_str_bytes x.key ∷ l) (bare_keys xs more)

-- the key is a new one
pub key_is_new : (xs : List Annotation) (x : Annotation) (found : List (Text × Text)) (us rest : List Lexeme) → IsTrue (are_distinct (map (λ a. a.0) found))
    → (n : IsNextAnnotation (map bare_annotation xs) found us rest) → bare_annotation x ≡ n.next → is_among (rc_str_bytes x.key) (keys_of xs) ≡ false
key_is_new xs x found us rest d n i =
    let keys : map key_in found ≡ keys_of xs ++ map key_in (n.next ∷ n.more) = ap (map key_in) n.all ∙ bare_keys xs (n.next ∷ n.more) in
    let none : is_among n.next.0 (keys_of xs) ≡ false = apart (keys_of xs) n.next.0 (map key_in n.more) (sym (ap are_distinct keys) ∙ d) in
    let same : rc_str_bytes x.key ≡ n.next.0 = ap key_in i in
    ap (λ k. is_among k (keys_of xs)) same ∙ none
