-- Whole scopes, policies and texts.
use Rattle.std.proofs.Common.{◌≡◌, ◌<◌, ℕ, List, [], ◌∷◌, map, length, refl, ◌∙◌, ap, subst, arith}
use Rattle.std.specs.Rc.{rc_str_bytes}
use Rattle.cedar_builders.specs.Keys.{are_distinct}
use Rattle.cedar_names.specs.declared.slot.SlotId.TheVariants as slots
use Rattle.cedar_terms.specs.declared.var.Var.TheVariants as variables
use Rattle.cedar_lexer.specs.TokenPlaces.{AreTokens}
use Rattle.cedar_lexer.specs.TokenStreams.{IsEndBehind, end_of, rest_of, tokens_left}
use Rattle.cedar_lexer.specs.declared.parse_failure.ParseFailure.{ParseFailure}
use Rattle.cedar_lexer.specs.declared.token.Token.{Token}
use Rattle.cedar_lexer.specs.declared.token.TokenKind.TheVariants as kinds
use Rattle.cedar_lexer.specs.declared.token_stream.TokenStream.{TokenStream}
use Rattle.semantics_grammar.specs.Lexemes.{lexeme, lexemes_of}
use Rattle.cedar_parser.specs.Meant.{here}
use Rattle.cedar_parser.specs.Refused.{IsWithin, stop_of}
use Rattle.cedar_parser.proofs.Tokenized.{all_before, stopped_within}
use Rattle.cedar_parser.proofs.Whole.{lexemes_of_text}
use Rattle.semantics_policies.specs.Grammar.{AreAnnotations, AreClauses, ArePolicies, EndsScope, IsActionScope, IsPolicy, IsScope, IsWholeScope, effect_text}
use Rattle.semantics_policies.specs.Policies as bare
use Rattle.cedar_policies.specs.Policies.{bare_annotation}
use Rattle.cedar_policies.specs.declared.policy.Annotation.{Annotation}
use Rattle.cedar_policy_parser.specs.Annotations.{AreAnnotationsOf, keys_of}
use Rattle.cedar_policy_parser.specs.Streams.{ArePoliciesOf, IsEffectTaken, IsRest, IsSound, IsTokenTaken}
use Rattle.cedar_policy_parser.proofs.Taken.{rest_rest, within_rest}

pub scope_parsed : (p : bare.ScopeConstraint) (a : bare.ActionConstraint) (r : bare.ScopeConstraint) (c d : Token) (t0 t1 t2 t3 t4 t5 t6 : TokenStream)
    → IsScope variables.Principal slots.Principal (here t0) p (here t1) × IsRest t0 t1 → IsTokenTaken kinds.Comma c t1 t2
    → IsActionScope (here t2) a (here t3) × IsRest t2 t3 → IsTokenTaken kinds.Comma d t3 t4
    → IsScope variables.Resource slots.Resource (here t4) r (here t5) × IsRest t4 t5 → EndsScope (here t5) (here t6) × IsRest t5 t6
    → IsWholeScope (here t0) p a r (here t6) × IsRest t0 t6
scope_parsed p a r c d t0 t1 t2 t3 t4 t5 t6 h1 h2 h3 h4 h5 h6 = (
  record {
    before_action = here t2;
    before_resource = here t4;
    before_end = here t5;
    first_comma = c.text.now;
    second_comma = d.text.now;
    principal = subst (IsScope variables.Principal slots.Principal (here t0) p) h2.first h1.0;
    action = subst (IsActionScope (here t2) a) h4.first h3.0;
    resource = h5.0;
    end = h6.0;
  },
  rest_rest t0 t1 t6 h1.1 (rest_rest t1 t2 t6 h2.rest (rest_rest t2 t3 t6 h3.1 (rest_rest t3 t4 t6 h4.rest (rest_rest t4 t5 t6 h5.1 h6.1)))),
)

bare_keys : (xs : List Annotation) → map (λ a. a.0) (map bare_annotation xs) ≡ keys_of xs
bare_keys [] = refl
bare_keys (x ∷ xs) = ap (λ l. rc_str_bytes x.key ∷ l) (bare_keys xs)

pub policy_parsed : (xs : List Annotation) (e : bare.Effect) (p : bare.ScopeConstraint) (a : bare.ActionConstraint) (r : bare.ScopeConstraint)
    (cs : List bare.Clause) (o s : Token) (t0 t1 t2 t3 t4 t5 t6 : TokenStream)
    → AreAnnotationsOf (here t0) xs (here t1) × IsRest t0 t1 → IsEffectTaken (effect_text e) t1 t2 → IsTokenTaken kinds.OpenRound o t2 t3
    → IsWholeScope (here t3) p a r (here t4) × IsRest t3 t4 → AreClauses (here t4) cs (here t5) × IsRest t4 t5 → IsTokenTaken kinds.Semicolon s t5 t6
    → IsPolicy (here t0) (record { annotations = map bare_annotation xs; effect = e; principal = p; action = a; resource = r; clauses = cs }) (here t6) × IsRest t0 t6
policy_parsed xs e p a r cs o s t0 t1 t2 t3 t4 t5 t6 h1 h2 h3 h4 h5 h6 = (
  record {
    scope = here t3;
    before_clauses = here t4;
    bracket = o.text.now;
    semicolon = s.text.now;
    annotations =
        subst (AreAnnotations (here t0) (map bare_annotation xs)) (h2.first ∙ ap (λ t. lexeme kinds.Word (effect_text e) ∷ t) h3.first) h1.0.all;
    constraints = h4.0;
    clauses = subst (AreClauses (here t4) cs) h6.first h5.0;
    keys = ap are_distinct (bare_keys xs) ∙ h1.0.keys;
  },
  rest_rest t0 t1 t6 h1.1 (rest_rest t1 t2 t6 h2.rest (rest_rest t2 t3 t6 h3.rest (rest_rest t3 t4 t6 h4.1 (rest_rest t4 t5 t6 h5.1 h6.rest)))),
)

pub policy_fewer : (w : List ℕ) (o s : Token) (t0 t1 t2 t3 t4 t5 t6 : TokenStream) → IsRest t0 t1 → IsEffectTaken w t1 t2
    → IsTokenTaken kinds.OpenRound o t2 t3 → IsRest t3 t4 → IsRest t4 t5 → IsTokenTaken kinds.Semicolon s t5 t6 → tokens_left t6 < tokens_left t0
policy_fewer w o s t0 t1 t2 t3 t4 t5 t6 h1 h2 h3 h4 h5 h6 = omega (arith, h1.left, h2.fewer, h3.fewer, h4.left, h5.left, h6.fewer)

-- the tokens of a text are a sound stream
pub text_sound : (text : List ℕ) (found : List Token) (t : TokenStream) → AreTokens text found → rest_of t ≡ found → IsEndBehind found (end_of t) → IsSound t
text_sound text found t are all end = record {
  order = all_before text found t are all end;
  lexemes = lexemes_of_text text found t are all;
  end = end.0;
}

pub text_policies : (text : List ℕ) (found : List Token) (t : TokenStream) (ps : List bare.BarePolicy) → AreTokens text found → rest_of t ≡ found
    → ArePolicies (here t) ps → ArePoliciesOf text ps
text_policies text found t ps are all h = (found, are, subst (λ ts. ArePolicies (lexemes_of ts) ps) all h)

pub text_refused : (text : List ℕ) (found : List Token) (t : TokenStream) (e : ParseFailure) → AreTokens text found → IsEndBehind found (end_of t)
    → IsWithin (stop_of t) e → IsWithin (length text) e
text_refused text found t e are end w = stopped_within text found t e are end w

none_here : (ts : List Token) → length ts ≡ 0 → lexemes_of ts ≡ []
none_here [] e = refl
none_here (t ∷ ts) e = absurd (omega (arith, e))

-- nothing is left
pub nothing_here : (t : TokenStream) → tokens_left t ≡ 0 → here t ≡ []
nothing_here t e = none_here (rest_of t) e

pub ruleset policy_rules = (policy_parsed, policy_fewer, within_rest)
