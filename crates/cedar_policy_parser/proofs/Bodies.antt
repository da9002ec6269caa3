-- The bodies of clauses, and the texts of annotations.
use Rattle.std.proofs.Common.{◌≡◌, true, [], ◌∷◌, ◌++◌, refl, sym, ◌∙◌, ap, subst}
use Rattle.std.specs.Prelude.{codes}
use Rattle.cedar_builders.specs.BareExpr.{Text, BareExpr}
use Rattle.cedar_lexer.specs.declared.parse_failure.ParseFailure.{ParseFailure}
use Rattle.cedar_lexer.specs.declared.token.Token.{Token}
use Rattle.cedar_lexer.specs.declared.token.TokenKind.{TokenKind}
use Rattle.cedar_lexer.specs.declared.token.TokenKind.TheVariants as kinds
use Rattle.cedar_lexer.specs.declared.token_stream.TokenStream.{TokenStream}
use Rattle.semantics_grammar.specs.Grammar.{Stands}
use Rattle.semantics_grammar.specs.Lexemes.{lexeme}
use Rattle.semantics_grammar.specs.Written.{IsTextOf}
use Rattle.cedar_parser.specs.Meant.{here}
use Rattle.cedar_parser.specs.Refused.{IsWithin, stop_of}
use Rattle.semantics_policies.specs.Grammar.{IsAnnotation, with_text, without_text, IsClause, when_clause, unless_clause, is_word_kind}
use Rattle.semantics_policies.specs.Policies.{when_true, unless_true}
use Rattle.cedar_policy_parser.specs.Annotations.{IsBehindAt, IsClosedText, IsKeyTaken}
use Rattle.cedar_policy_parser.specs.Streams.{HasNoSlot, IsBody, IsEffectTaken, IsGroupTaken, IsRest, IsSound, IsTokenTaken}
use Rattle.cedar_policy_parser.proofs.Groups.{group_refused}
use Rattle.cedar_policy_parser.proofs.Taken.{rest_rest, within_rest}

pub copy_sound : (copy group old new : TokenStream) → copy ≡ group → IsGroupTaken group old new → IsSound copy
copy_sound copy group old new e g = subst IsSound (sym e) g.sound

pub copy_refused : (copy group t0 t1 t2 : TokenStream) (o : Token) (e : ParseFailure) → copy ≡ group → IsTokenTaken kinds.OpenCurly o t0 t1
    → IsGroupTaken group t1 t2 → IsWithin (stop_of copy) e → IsWithin (stop_of t0) e
copy_refused copy group t0 t1 t2 o e same h g w =
    within_rest t0 t1 e h.rest (group_refused group t1 t2 e g (subst (λ s. IsWithin (stop_of s) e) same w))

pub body_refused : (group t0 t1 t2 : TokenStream) (o : Token) (e : ParseFailure) → IsTokenTaken kinds.OpenCurly o t0 t1
    → IsGroupTaken group t1 t2 → IsWithin (stop_of group) e → IsWithin (stop_of t0) e
body_refused group t0 t1 t2 o e h g w = copy_refused group group t0 t1 t2 o e refl h g w

pub close_refused : (group t0 t1 t2 : TokenStream) (o : Token) (e : ParseFailure) → IsTokenTaken kinds.OpenCurly o t0 t1
    → IsGroupTaken group t1 t2 → IsWithin (stop_of t2) e → IsWithin (stop_of t0) e
close_refused group t0 t1 t2 o e h g w = within_rest t0 t1 e h.rest (within_rest t1 t2 e g.rest w)

pub body_parsed : (copy group t0 t1 t2 t3 : TokenStream) (o c : Token) (e : BareExpr) → copy ≡ group → IsTokenTaken kinds.OpenCurly o t0 t1
    → IsGroupTaken group t1 t2 → HasNoSlot (here copy) → Stands (here group) e → IsTokenTaken kinds.CloseCurly c t2 t3
    → IsBody (here t0) e (here t3) × IsRest t0 t3
body_parsed copy group t0 t1 t2 t3 o c e same h g none stands i = (
  record {
    opened = o.text.now;
    closed = c.text.now;
    expr = here group;
    split = h.first ∙ ap (λ t. lexeme kinds.OpenCurly o.text.now ∷ t) (g.all ∙ ap (λ t. here group ++ t) i.first);
    clause = record { stands = stands; no_slot = subst (λ s. HasNoSlot (here s)) same none };
  },
  rest_rest t0 t1 t3 h.rest (rest_rest t1 t2 t3 g.rest i.rest),
)

pub when_parsed : (w : Text) (e : BareExpr) (t0 t1 : TokenStream) → w ≡ codes "when" → IsBody (here t0) e (here t1) × IsRest t0 t1
    → IsClause (lexeme kinds.Word w ∷ here t0) (when_true e) (here t1) × IsRest t0 t1
when_parsed w e t0 t1 is b = (
  subst (λ x. IsClause (lexeme kinds.Word w ∷ x) (when_true e) (here t1)) (sym b.0.split) (when_clause b.0.closed is b.0.clause),
  b.1,
)

pub unless_parsed : (w : Text) (e : BareExpr) (t0 t1 : TokenStream) → w ≡ codes "unless" → IsBody (here t0) e (here t1) × IsRest t0 t1
    → IsClause (lexeme kinds.Word w ∷ here t0) (unless_true e) (here t1) × IsRest t0 t1
unless_parsed w e t0 t1 is b = (
  subst (λ x. IsClause (lexeme kinds.Word w ∷ x) (unless_true e) (here t1)) (sym b.0.split) (unless_clause b.0.closed is b.0.clause),
  b.1,
)

-- ---- annotations

pub closed_text : (q c : Token) (t : Text) (t0 t1 t2 : TokenStream) → IsTokenTaken kinds.Quoted q t0 t1 → IsTokenTaken kinds.CloseRound c t1 t2
    → IsTextOf q.text.now t → IsClosedText (here t0) t (here t2) × IsRest t0 t2
closed_text q c t t0 t1 t2 h i m = (
  record {
    quoted = q.text.now;
    bracket = c.text.now;
    split = h.first ∙ ap (λ x. lexeme kinds.Quoted q.text.now ∷ x) i.first;
    text = m;
  },
  rest_rest t0 t1 t2 h.rest i.rest,
)

pub key_taken : (kind : TokenKind) (t : Token) (old new : TokenStream) → is_word_kind kind ≡ true → IsTokenTaken kind t old new → IsKeyTaken t old new
key_taken kind t old new w h = record { kind = kind; word = w; taken = h }

pub behind_at : (k o : Token) (key value : Text) (t0 t1 t2 t3 : TokenStream) → IsKeyTaken k t0 t1
    → key ≡ k.text.now → IsTokenTaken kinds.OpenRound o t1 t2 → IsClosedText (here t2) value (here t3) × IsRest t2 t3
    → IsBehindAt (here t0) (key, value) (here t3) × IsRest t0 t3
behind_at k o key value t0 t1 t2 t3 h e i b = (
  λ at.
      (let made : IsAnnotation (lexeme kinds.At at ∷ lexeme h.kind k.text.now ∷ lexeme kinds.OpenRound o.text.now ∷ lexeme kinds.Quoted b.0.quoted
      ∷ lexeme kinds.CloseRound b.0.bracket ∷ here t3) (k.text.now, value) (here t3) = with_text h.word b.0.text in
      let split = ap (λ x. lexeme kinds.At at ∷ x) (h.taken.first ∙ ap (λ x. lexeme h.kind k.text.now ∷ x) (i.first ∙ ap (λ x. lexeme kinds.OpenRound o.text.now ∷ x) b.0.split)) in
      subst (λ x. IsAnnotation (lexeme kinds.At at ∷ here t0) (x, value) (here t3)) (sym e)
      (subst (λ x. IsAnnotation x (k.text.now, value) (here t3)) (sym split) made)),
  rest_rest t0 t1 t3 h.taken.rest (rest_rest t1 t2 t3 i.rest b.1),
)

pub behind_at_alone : (k : Token) (key value : Text) (t0 t1 : TokenStream) → IsKeyTaken k t0 t1
    → key ≡ k.text.now → value ≡ [] → IsBehindAt (here t0) (key, value) (here t1) × IsRest t0 t1
behind_at_alone k key value t0 t1 h e none = (
  λ at.
      (let made : IsAnnotation (lexeme kinds.At at ∷ lexeme h.kind k.text.now ∷ here t1) (k.text.now, []) (here t1) = without_text h.word in
      subst (λ x. IsAnnotation (lexeme kinds.At at ∷ here t0) (key, x) (here t1)) (sym none)
      (subst (λ x. IsAnnotation (lexeme kinds.At at ∷ here t0) (x, []) (here t1)) (sym e)
      (subst (λ x. IsAnnotation (lexeme kinds.At at ∷ x) (k.text.now, []) (here t1)) (sym h.taken.first) made))),
  h.taken.rest,
)

-- the word of an effect
pub effect_parsed : (w : Token) (t : Text) (t0 t1 : TokenStream) → w.text.now ≡ t → IsTokenTaken kinds.Word w t0 t1 → IsEffectTaken t t0 t1
effect_parsed w t t0 t1 e h = record {
  first = h.first ∙ ap (λ x. lexeme kinds.Word x ∷ here t1) e;
  rest = h.rest;
  fewer = h.fewer;
}

-- ---- what the functions cite

pub ruleset body_rules = (copy_sound, copy_refused, body_refused, close_refused, body_parsed)

pub ruleset annotation_rules = (behind_at, behind_at_alone, within_rest)
