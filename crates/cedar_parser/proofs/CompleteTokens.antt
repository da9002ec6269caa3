-- Attributes and tests keep what is still to come, over the tokens of a stream.
use Rattle.std.proofs.Common.{◌≡◌, ℕ, Bool, true, false, List, [], ◌∷◌, refl, sym, ◌∙◌, ap, subst, arith, inl, inr}
use Rattle.std.specs.Prelude.{◌⊎◌}
use Rattle.std.proofs.lemmas.Bool.{false≢true}
use Rattle.cedar_terms.specs.declared.pattern.PatternElem.{PatternElem}
use Rattle.cedar_terms.specs.declared.precedence.Precedence.TheVariants as precedences
use Rattle.cedar_builders.specs.BareExpr.{Text, BareExpr}
use Rattle.cedar_lexer.specs.TokenStreams.{BeginsWith, IsTaken, IsUntouched, rest_of}
use Rattle.cedar_lexer.specs.declared.token.Token.{Token}
use Rattle.cedar_lexer.specs.declared.token.TokenKind.{TokenKind}
use Rattle.cedar_lexer.specs.declared.token.TokenKind.TheVariants as kinds
use Rattle.cedar_lexer.specs.declared.token_stream.TokenStream.{TokenStream}
use Rattle.semantics_grammar.specs.Lexemes.{Lexeme, lexeme, lexemes_of}
use Rattle.semantics_grammar.specs.Written.{ArePathIds, IsPatternOf, in_namespace, last_id}
use Rattle.semantics_grammar.specs.Grammar.{Reads}
use Rattle.cedar_parser.specs.Waiting.{Waiting, method_arguments, Group}
use Rattle.cedar_parser.specs.Ahead.{Rest, RowGoesOn, ends_path}
use Rattle.cedar_parser.specs.Meant.{AreLexemes, first_kind, from, here}
use Rattle.cedar_names.specs.Names.{BareName, IsNameOf, has_reserved}
use Rattle.cedar_parser.proofs.Ascending.{rest_dead}
use Rattle.cedar_parser.proofs.Onward.{behind_first}
use Rattle.cedar_parser.proofs.TakenSteps.{taken_here, untouched_here}
use Rattle.cedar_parser.proofs.AheadSteps.{DotAhead, KeyAhead, KeysLeft, TestAhead, attribute_ahead, has_ahead, is_ahead, is_in_ahead, like_ahead, method_ahead, rest_ends_path}
use Rattle.cedar_parser.proofs.Words.{one_path, path_named}

-- ---- the first of the tokens

begins_first : (k : TokenKind) (ts : List Token) → first_kind (lexemes_of ts) ≡ k → (k ≡ kinds.End → ⊥) → BeginsWith k ts
begins_first k [] e some = absurd (some (sym e))
begins_first k (t ∷ ts) e some = e

pub first_is : (k : TokenKind) (t : TokenStream) → first_kind (here t) ≡ k → (k ≡ kinds.End → ⊥) → BeginsWith k (rest_of t)
first_is k t e some = begins_first k (rest_of t) e some

-- the next token is not of this kind
pub first_other : (k : TokenKind) (old new : TokenStream) → (BeginsWith k (rest_of old) → ⊥) → (k ≡ kinds.End → ⊥) → IsUntouched old new
    → first_kind (here new) ≡ k → ⊥
first_other k old new other some u e = other (first_is k old (ap first_kind (untouched_here old new u) ∙ e) some)

abbrev is_end : TokenKind → Bool
is_end kinds.End = true
is_end k = false

pub no_end : (k : TokenKind) → is_end k ≡ false → k ≡ kinds.End → ⊥
no_end k h e = false≢true (sym h ∙ ap is_end e)

abbrev word_of : List Lexeme → List ℕ
word_of [] = []
word_of (lexeme k w ∷ ts) = w

-- ---- attributes

pub dot_word : (gs : List Group) (ws : List Waiting) (t : TokenStream) → DotAhead gs ws (here t) → BeginsWith kinds.Word (rest_of t)
dot_word gs ws t (attribute_ahead k us e h) = first_is kinds.Word t (ap first_kind e) (no_end kinds.Word refl)
dot_word gs ws t (method_ahead m o us e h) = first_is kinds.Word t (ap first_kind e) (no_end kinds.Word refl)

pub method_behind : (gs : List Group) (ws : List Waiting) (n o : List ℕ) (us ts : List Lexeme) → DotAhead gs ws ts
    → ts ≡ lexeme kinds.Word n ∷ lexeme kinds.OpenRound o ∷ us → RowGoesOn gs ws (method_arguments n) 1 us
method_behind gs ws n o us ts (attribute_ahead k vs e h) f =
    absurd (rest_dead gs ws kinds.OpenRound o us precedences.Member refl (omega arith)
    (subst (Rest gs ws precedences.Member) (ap behind_first (sym e ∙ f)) h))
method_behind gs ws n o us ts (method_ahead m p vs e h) f =
    subst (λ x. RowGoesOn gs ws (method_arguments x) 1 us) (ap word_of (sym e ∙ f))
    (subst (RowGoesOn gs ws (method_arguments m) 1) (ap (λ x. behind_first (behind_first x)) (sym e ∙ f)) h)

pub attribute_behind : (gs : List Group) (ws : List Waiting) (n : List ℕ) (us ts : List Lexeme) → DotAhead gs ws ts → ts ≡ lexeme kinds.Word n ∷ us
    → (first_kind us ≡ kinds.OpenRound → ⊥) → Rest gs ws precedences.Member us
attribute_behind gs ws n us ts (attribute_ahead k vs e h) f other = subst (Rest gs ws precedences.Member) (ap behind_first (sym e ∙ f)) h
attribute_behind gs ws n us ts (method_ahead m p vs e h) f other =
    absurd (other (sym (ap (λ x. first_kind (behind_first x)) (sym e ∙ f))))

-- ---- tests

pub has_key : (gs : List Group) (ws : List Waiting) (ts : List Lexeme) → TestAhead gs ws kinds.Has ts → KeyAhead gs ws ts
has_key gs ws ts (has_ahead k) = k

-- a pattern, and what goes on behind it
pub record PatternAhead (gs : List Group) (ws : List Waiting) (ts : List Lexeme) : Type 0 where
  pub quoted : List ℕ
  pub pattern : List PatternElem
  pub behind : List Lexeme
  pub tokens : ts ≡ lexeme kinds.Quoted quoted ∷ behind
  pub is_pattern : IsPatternOf quoted pattern
  pub goes_on : Rest gs ws precedences.Relation behind

pub like_pattern : (gs : List Group) (ws : List Waiting) (ts : List Lexeme) → TestAhead gs ws kinds.Like ts → PatternAhead gs ws ts
like_pattern gs ws ts (like_ahead {q = q} {ts = us} p i h) =
    record { quoted = q; pattern = p; behind = us; tokens = refl; is_pattern = i; goes_on = h }

ids_word : {ts rest : List Lexeme} {t : List ℕ} → ArePathIds ts t rest → first_kind ts ≡ kinds.Word
ids_word last_id = refl
ids_word (in_namespace p) = refl

pub is_word : (gs : List Group) (ws : List Waiting) (t : TokenStream) → TestAhead gs ws kinds.Is (here t) → BeginsWith kinds.Word (rest_of t)
is_word gs ws t h = first_is kinds.Word t (type_first h) (no_end kinds.Word refl)
  where
    type_first : {ts : List Lexeme} → TestAhead gs ws kinds.Is ts → first_kind ts ≡ kinds.Word
    type_first (is_ahead n i h) = ids_word i.ids
    type_first (is_in_ahead n i p h) = ids_word i.ids

-- behind a type: what goes on with the test, or `in`
abbrev pub TypeLeft : List Group → List Waiting → List Lexeme → Type 0
TypeLeft gs ws ts =
    Rest gs ws precedences.Relation ts
    ⊎ ((v : List ℕ) × (us : List Lexeme) × (b : BareExpr) × (rest : List Lexeme) × (ts ≡ lexeme kinds.In v ∷ us) × Reads precedences.Sum us b rest
    × Rest gs ws precedences.Relation rest)

pub type_behind : (gs : List Group) (ws : List Waiting) (ts : List Lexeme) (path : Text) (us : List Lexeme) → TestAhead gs ws kinds.Is ts
    → ArePathIds ts path us → ends_path us ≡ true → TypeLeft gs ws us
type_behind gs ws ts path us (is_ahead {rest = rest} n i h) p end =
    inl (subst (Rest gs ws precedences.Relation) (sym (one_path p i.ids end (rest_ends_path gs ws precedences.Relation rest h)).1) h)
type_behind gs ws ts path us (is_in_ahead {v = v} {b = b} {us = vs} {rest = rest} n i q h) p end =
    inr (v, vs, b, rest, (one_path p i.ids end refl).1, q, h)

pub in_behind : (gs : List Group) (ws : List Waiting) (v : List ℕ) (us : List Lexeme) → TypeLeft gs ws (lexeme kinds.In v ∷ us)
    → (b : BareExpr) × (rest : List Lexeme) × Reads precedences.Sum us b rest × Rest gs ws precedences.Relation rest
in_behind gs ws v us (inl h) = absurd (rest_dead gs ws kinds.In v us precedences.Relation refl (omega arith) h)
in_behind gs ws v us (inr h) = (h.2, h.3, subst (λ x. Reads precedences.Sum x h.2 h.3) (sym (ap behind_first h.4)) h.5, h.6)

pub type_end : (gs : List Group) (ws : List Waiting) (ts : List Lexeme) → (first_kind ts ≡ kinds.In → ⊥) → TypeLeft gs ws ts
    → Rest gs ws precedences.Relation ts
type_end gs ws ts other (inl h) = h
type_end gs ws ts other (inr h) = absurd (other (ap first_kind h.4))

-- ---- keys

abbrev pub KeysAre : List Group → List Waiting → List Lexeme → Type 0
KeysAre gs ws ts = KeysLeft gs ws ts

behind_word : (l : Lexeme) (ts : List Lexeme) → AreLexemes (l ∷ ts) → AreLexemes ts
behind_word (lexeme k w) ts h = h.1

-- a key was taken
pub key_step : (gs : List Group) (ws : List Waiting) (old new : TokenStream) (f : KeyAhead gs ws (here old)) → AreLexemes (here old) → here new ≡ f.behind
    → AreLexemes (here new) × KeysLeft gs ws (here new)
key_step gs ws old new f lex e = (
  subst AreLexemes (sym e) (behind_word f.word f.behind (subst AreLexemes f.tokens lex)),
  subst (KeysAre gs ws) (sym e) f.left,
)

-- ---- types

abbrev pub TypeIs : List Group → List Waiting → List Lexeme → Type 0
TypeIs gs ws ts = TypeLeft gs ws ts

-- behind the path of a type, which has a name
pub record TypeAt (gs : List Group) (ws : List Waiting) (path : Text) (ts : List Lexeme) : Type 0 where
  pub lexemes : AreLexemes ts
  pub name : BareName
  pub named : IsNameOf path name
  pub plain : has_reserved name ≡ false
  pub left : TypeLeft gs ws ts

pub path_lexemes : {ts rest : List Lexeme} {t : List ℕ} → ArePathIds ts t rest → AreLexemes ts → AreLexemes rest
path_lexemes last_id l = l.1
path_lexemes (in_namespace p) l = path_lexemes p l.1.1

pub type_at : (gs : List Group) (ws : List Waiting) (first : Token) (path : Text) (t0 t1 t2 : TokenStream) → TestAhead gs ws kinds.Is (here t0)
    → AreLexemes (here t0) → first.kind ≡ kinds.Word → IsTaken t0 first t1 → (first.kind ≡ kinds.Word → ArePathIds (from first t1) path (here t2))
    → ends_path (here t2) ≡ true → TypeAt gs ws path (here t2)
type_at gs ws first path t0 t1 t2 h lex word taken ids end =
    let p = subst (λ x. ArePathIds x path (here t2)) (sym (taken_here t0 t1 first taken)) (ids word) in
    let n = path_named p lex in
    record { lexemes = path_lexemes p lex; name = n.0; named = n.1; plain = n.2; left = type_behind gs ws (here t0) path (here t2) h p end }
