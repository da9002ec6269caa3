-- Policies: what is left of them, what the next one is, and what it is made of.
use Rattle.std.proofs.Common.{◌≡◌, ◌+◌, ℕ, suc, false, List, [], ◌∷◌, ◌++◌, length, append-nil, refl, sym, ◌∙◌, ap, subst, arith}
use Rattle.std.specs.Prelude.{IsTrue}
use Rattle.std.specs.Rc.{rc_str_bytes}
use Rattle.cedar_builders.specs.BareExpr.{Text}
use Rattle.cedar_builders.specs.Keys.{are_distinct, is_among}
use Rattle.cedar_lexer.specs.TokenPlaces.{AreSame, AreTokens}
use Rattle.cedar_lexer.specs.TokenStreams.{rest_of, tokens_left}
use Rattle.cedar_lexer.specs.declared.token.Token.{Token}
use Rattle.cedar_lexer.specs.declared.token.TokenKind.{TokenKind}
use Rattle.cedar_lexer.specs.declared.token.TokenKind.TheVariants as kinds
use Rattle.cedar_lexer.specs.declared.token_stream.TokenStream.{TokenStream}
use Rattle.semantics_grammar.specs.Lexemes.{Lexeme, lexeme, lexemes_of}
use Rattle.cedar_parser.specs.Meant.{here}
use Rattle.cedar_parser.proofs.CompleteWhole.{same_lexemes}
use Rattle.semantics_policies.specs.Grammar.{AreAnnotations, no_annotations, annotation, IsAnnotation, with_text, without_text, AreClauses, ArePolicies, no_policies, policy, IsPolicy, IsWholeScope, effect_text}
use Rattle.semantics_policies.specs.Identifiers.{policy_id, policy_ids}
use Rattle.semantics_policies.specs.Policies.{ActionConstraint, BarePolicy, Clause, Effect, ScopeConstraint}
use Rattle.cedar_policies.specs.Policies.{bare_policy}
use Rattle.cedar_policies.specs.PolicySets.{AreNamed, bare_policies, ids_of}
use Rattle.cedar_policies.specs.declared.policy_set.Policy.{Policy}
use Rattle.cedar_policy_parser.specs.Complete.{AreAnnotationsUpTo, AreClausesUpTo}
use Rattle.cedar_policy_parser.specs.Streams.{ArePoliciesOf}
use Rattle.cedar_policy_parser.proofs.CompleteAnnotations.{one_more}
use Rattle.cedar_policy_parser.proofs.Firsts.{taken_rest}
use Rattle.cedar_policy_parser.proofs.Keys.{apart}
use Rattle.cedar_policy_parser.proofs.Loops.{map_length}

-- ---- one policy

module _ {ts : List Lexeme} {p : BarePolicy} {rest : List Lexeme} (h : IsPolicy ts p rest) where
  abbrev pub behind_effect : List Lexeme
  behind_effect = lexeme kinds.OpenRound h.bracket ∷ h.scope

  abbrev pub behind_annotations : List Lexeme
  behind_annotations = lexeme kinds.Word (effect_text p.effect) ∷ behind_effect

  abbrev pub behind_clauses : List Lexeme
  behind_clauses = lexeme kinds.Semicolon h.semicolon ∷ rest

  pub annotations_there : AreAnnotationsUpTo ts p.annotations behind_annotations
  annotations_there = record { all = h.annotations; keys = h.keys; ends = refl }

  pub scope_there : {k j : TokenKind} {w v : List ℕ} {t1 t2 t3 : List Lexeme} → t1 ≡ behind_annotations → t1 ≡ lexeme k w ∷ t2
      → t2 ≡ lexeme j v ∷ t3 → IsWholeScope t3 p.principal p.action p.resource h.before_clauses
  scope_there is effect bracket =
      subst (λ x. IsWholeScope x p.principal p.action p.resource h.before_clauses) (sym (taken_rest bracket (taken_rest effect is)))
      h.constraints

  pub clauses_there : {us : List Lexeme} → us ≡ h.before_clauses → AreClausesUpTo us p.clauses behind_clauses
  clauses_there e = (subst (λ x. AreClauses x p.clauses behind_clauses) (sym e) h.clauses, refl)

abbrev policy_of : List (Text × Text) → Effect → ScopeConstraint → ActionConstraint → ScopeConstraint → List Clause → BarePolicy
policy_of xs e p a r cs = record { annotations = xs; effect = e; principal = p; action = a; resource = r; clauses = cs }

-- policies of the same parts are the same
pub policy_same : (xs : List (Text × Text)) (e : Effect) (p : ScopeConstraint) (a : ActionConstraint) (r : ScopeConstraint) (cs : List Clause) (q : BarePolicy)
    → xs ≡ q.annotations → e ≡ q.effect → p ≡ q.principal → a ≡ q.action → r ≡ q.resource → cs ≡ q.clauses
    → policy_of xs e p a r cs ≡ q
policy_same xs e p a r cs q h1 h2 h3 h4 h5 h6 =
    ap (λ x. policy_of x e p a r cs) h1
    ∙ (ap (λ x. policy_of q.annotations x p a r cs) h2
    ∙ (ap (λ x. policy_of q.annotations q.effect x a r cs) h3
    ∙ (ap (λ x. policy_of q.annotations q.effect q.principal x r cs) h4
    ∙ (ap (λ x. policy_of q.annotations q.effect q.principal q.action x cs) h5
    ∙ ap (λ x. policy_of q.annotations q.effect q.principal q.action q.resource x) h6))))

-- ---- several policies

-- behind those that are parsed others stand
pub record ArePoliciesLeft (done found : List BarePolicy) (ts : List Lexeme) : Type 0 where
  pub more : List BarePolicy
  pub all : found ≡ done ++ more
  pub left : ArePolicies ts more

pub record IsNextPolicy (done found : List BarePolicy) (ts : List Lexeme) : Type 0 where
  pub next : BarePolicy
  pub more : List BarePolicy
  pub behind : List Lexeme
  pub all : found ≡ done ++ (next ∷ more)
  pub one : IsPolicy ts next behind
  pub others : ArePolicies behind more

one_next : (done found more : List BarePolicy) (ts : List Lexeme) → (ts ≡ [] → ⊥) → found ≡ done ++ more → ArePolicies ts more
    → IsNextPolicy done found ts
one_next done found more ts some all no_policies = absurd (some refl)
one_next done found more ts some all (policy {p = p} {ps = ps} {rest = rest} h left) =
    record { next = p; more = ps; behind = rest; all = all; one = h; others = left }

abbrev IsThere : List Lexeme → Type 0
IsThere [] = ⊥
IsThere (l ∷ ls) = Unit {0}

count_lexemes : (ts : List Token) → lexemes_of ts ≡ [] → length ts ≡ 0
count_lexemes [] e = refl
count_lexemes (t ∷ ts) e = absurd (subst IsThere e tt)

pub policy_next : (done found : List BarePolicy) (t : TokenStream) → (tokens_left t ≡ 0 → ⊥) → ArePoliciesLeft done found (here t)
    → IsNextPolicy done found (here t)
policy_next done found t some h = one_next done found h.more (here t) (λ e. some (count_lexemes (rest_of t) e)) h.all h.left

annotation_there : (ts : List Lexeme) (a : Text × Text) (rest : List Lexeme) → IsAnnotation ts a rest → IsThere ts
annotation_there ts a rest (with_text w t) = tt
annotation_there ts a rest (without_text w) = tt

annotations_first : (xs : List (Text × Text)) (ts rest : List Lexeme) → AreAnnotations ts xs rest → IsThere rest → IsThere ts
annotations_first xs ts rest no_annotations h = h
annotations_first xs ts rest (annotation {a = a} {us = us} h more) i = annotation_there ts a us h

none_next : (more : List BarePolicy) (ts : List Lexeme) → ts ≡ [] → ArePolicies ts more → more ≡ []
none_next more ts e no_policies = refl
none_next more ts e (policy {p = p} h left) =
    absurd (subst IsThere e (annotations_first p.annotations ts (lexeme kinds.Word (effect_text p.effect) ∷ lexeme kinds.OpenRound h.bracket ∷ h.scope) h.annotations tt))

pub policies_given : (done found : List BarePolicy) (ts : List Lexeme) → ts ≡ [] → ArePoliciesLeft done found ts → done ≡ found
policies_given done found ts e h = sym (h.all ∙ (ap (λ l. done ++ l) (none_next h.more ts e h.left) ∙ append-nil done))

pub policy_more : (ps new : List Policy) (p : Policy) (found : List BarePolicy) (ts t1 : List Lexeme) → new ≡ ps ++ (p ∷ [])
    → (n : IsNextPolicy (bare_policies ps) found ts) → bare_policy p.template ≡ n.next → t1 ≡ n.behind → ArePoliciesLeft (bare_policies new) found t1
policy_more ps new p found ts t1 e n i b = record {
  more = n.more;
  all = one_more (λ q. bare_policy q.template) ps new p found n.more n.next e i n.all;
  left = subst (λ x. ArePolicies x n.more) (sym b) n.others;
}

ids_append : (n : ℕ) (ps : List BarePolicy) (p : BarePolicy) (more : List BarePolicy)
    → policy_ids n (ps ++ (p ∷ more)) ≡ policy_ids n ps ++ (policy_id (n + length ps) p ∷ policy_ids (suc (n + length ps)) more)
ids_append n [] p more = ap (λ m. policy_id m p ∷ policy_ids (suc m) more) (omega arith)
ids_append n (q ∷ ps) p more =
    ap (λ l. policy_id n q ∷ l)
    (ids_append (suc n) ps p more
    ∙ ap (λ m. policy_ids (suc n) ps ++ (policy_id m p ∷ policy_ids (suc m) more)) (omega arith))

-- the identifier is a new one
pub id_is_new : (ps : List Policy) (p : Policy) (found : List BarePolicy) (ts : List Lexeme) → AreNamed ps
    → rc_str_bytes p.id ≡ policy_id (length ps) (bare_policy p.template) → IsTrue (are_distinct (policy_ids 0 found))
    → (n : IsNextPolicy (bare_policies ps) found ts) → bare_policy p.template ≡ n.next → is_among (rc_str_bytes p.id) (ids_of ps) ≡ false
id_is_new ps p found ts named id d n i =
    let count : length ps ≡ 0 + length (bare_policies ps) =
    (let same : length (bare_policies ps) ≡ length ps = map_length (λ q. bare_policy q.template) ps in omega (arith, same)) in
    let k : ℕ = 0 + length (bare_policies ps) in
    let split = ap (policy_ids 0) n.all ∙ ids_append 0 (bare_policies ps) n.next n.more in
    let apart_is = apart (policy_ids 0 (bare_policies ps)) (policy_id k n.next) (policy_ids (suc k) n.more) (sym (ap are_distinct split) ∙ d) in
    let name : rc_str_bytes p.id ≡ policy_id k n.next = id ∙ (ap (λ m. policy_id m (bare_policy p.template)) count ∙ ap (policy_id k) i) in
    ap (λ x. is_among x (ids_of ps)) name ∙ (ap (is_among (policy_id k n.next)) named.ids ∙ apart_is)

-- ---- the text

-- what a text stands for, its tokens do
pub text_policies_there : (text : List ℕ) (found : List Token) (t : TokenStream) (ps : List BarePolicy)
    → ((text : List ℕ) (ts us : List Token) → AreTokens text ts → AreTokens text us → AreSame ts us) → AreTokens text found → rest_of t ≡ found
    → ArePoliciesOf text ps → ArePolicies (here t) ps
text_policies_there text found t ps one are same p =
    subst (λ ts. ArePolicies ts ps) (same_lexemes p.0 found (one text p.0 found p.1 are) ∙ ap lexemes_of (sym same)) p.2
