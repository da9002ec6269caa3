-- Annotations, clauses and policies, one behind the other.
use Rattle.std.proofs.Common.{◌≡◌, ◌+◌, ℕ, suc, Bool, true, false, not, List, [], ◌∷◌, ◌++◌, length, map, append-nil, refl, sym, ◌∙◌, ap, subst, arith}
use Rattle.std.specs.Rc.{rc_str_bytes}
use Rattle.std.proofs.lemmas.Bool.{false≢true}
use Rattle.cedar_builders.specs.BareExpr.{Text}
use Rattle.cedar_builders.specs.Keys.{are_distinct, is_among}
use Rattle.cedar_lexer.specs.declared.token.Token.{Token}
use Rattle.cedar_lexer.specs.declared.token.TokenKind.TheVariants as kinds
use Rattle.cedar_lexer.specs.declared.token_stream.TokenStream.{TokenStream}
use Rattle.semantics_grammar.specs.Lexemes.{Lexeme, lexeme}
use Rattle.cedar_parser.specs.Meant.{here}
use Rattle.semantics_policies.specs.Grammar.{AreAnnotations, no_annotations, annotation, AreClauses, no_clauses, clause, ArePolicies, no_policies, policy, IsAnnotation, IsClause, IsPolicy}
use Rattle.semantics_policies.specs.Identifiers.{policy_id, policy_ids}
use Rattle.semantics_policies.specs.Policies as bare
use Rattle.cedar_policies.specs.Policies.{bare_annotation, bare_clause, bare_policy}
use Rattle.cedar_policies.specs.PolicySets.{AreNamed, bare_policies, ids_of}
use Rattle.cedar_policies.specs.declared.policy.Annotation.{Annotation}
use Rattle.cedar_policies.specs.declared.policy.Clause.{Clause}
use Rattle.cedar_policies.specs.declared.policy_set.Policy.{Policy}
use Rattle.cedar_policy_parser.specs.Annotations.{IsBehindAt, keys_of}
use Rattle.cedar_policy_parser.specs.Seen.{HasSeen}
use Rattle.cedar_policy_parser.specs.Streams.{IsTokenTaken}
use Rattle.cedar_policy_parser.specs.declared.seen.SeenTexts.{SeenTexts}
use Rattle.cedar_policy_parser.proofs.Keys.{distinct_more}

pub map_snoc : {A B : Type 0} (f : A → B) (xs : List A) (x : A) → map f (xs ++ (x ∷ [])) ≡ map f xs ++ (f x ∷ [])
map_snoc f [] x = refl
map_snoc f (y ∷ xs) x = ap (λ l. f y ∷ l) (map_snoc f xs x)

-- one more, and then the rest
pub map_push : {A B : Type 0} (f : A → B) (xs : List A) (x : A) (more : List B) → map f (xs ++ (x ∷ [])) ++ more ≡ map f xs ++ (f x ∷ more)
map_push f [] x more = refl
map_push f (y ∷ xs) x more = ap (λ l. f y ∷ l) (map_push f xs x more)

-- ---- texts that were seen

pub seen_begun : {A : Type 0} (f : A → Text) (xs : List A) (s : SeenTexts) → xs ≡ [] → HasSeen [] s → HasSeen (map f xs) s
seen_begun f xs s e h = subst (λ l. HasSeen (map f l) s) (sym e) h

pub seen_pushed : {A : Type 0} (f : A → Text) (xs new : List A) (x : A) (s : SeenTexts) → HasSeen (map f xs ++ (f x ∷ [])) s → new ≡ xs ++ (x ∷ [])
    → HasSeen (map f new) s
seen_pushed f xs new x s h e = subst (λ l. HasSeen l s) (sym (ap (map f) e ∙ map_snoc f xs x)) h

-- what is new was not seen
pub unseen : (a b : Bool) → b ≡ not a → b ≡ true → a ≡ false
unseen true b e h = absurd (false≢true (sym e ∙ h))
unseen false b e h = refl

-- ---- clauses

abbrev pub ClausesSoFar : TokenStream → TokenStream → List Clause → Type 0
ClausesSoFar t0 t cs =
    (more : List bare.Clause) (rest : List Lexeme) → AreClauses (here t) more rest → AreClauses (here t0) (map bare_clause cs ++ more) rest

pub clauses_begun : (t : TokenStream) (cs : List Clause) → cs ≡ [] → ClausesSoFar t t cs
clauses_begun t cs e more rest h = subst (λ l. AreClauses (here t) (map bare_clause l ++ more) rest) (sym e) h

pub clauses_more : (cs new : List Clause) (c : Clause) (w : Token) (t0 t t1 t2 : TokenStream) → ClausesSoFar t0 t cs → IsTokenTaken kinds.Word w t t1
    → IsClause (lexeme kinds.Word w.text.now ∷ here t1) (bare_clause c) (here t2) → new ≡ cs ++ (c ∷ []) → ClausesSoFar t0 t2 new
clauses_more cs new c w t0 t t1 t2 so h i e more rest k =
    let one : AreClauses (here t) (bare_clause c ∷ more) rest = clause (subst (λ x. IsClause x (bare_clause c) (here t2)) (sym h.first) i) k in
    let same : map bare_clause cs ++ (bare_clause c ∷ more) ≡ map bare_clause new ++ more =
    sym (map_push bare_clause cs c more) ∙ ap (λ l. map bare_clause l ++ more) (sym e) in
    subst (λ l. AreClauses (here t0) l rest) same (so (bare_clause c ∷ more) rest one)

pub clauses_ended : (cs : List Clause) (t0 t t1 : TokenStream) → ClausesSoFar t0 t cs → here t1 ≡ here t
    → AreClauses (here t0) (map bare_clause cs) (here t1)
clauses_ended cs t0 t t1 so e =
    subst (λ x. AreClauses (here t0) (map bare_clause cs) x) (sym e)
    (subst (λ l. AreClauses (here t0) l (here t)) (append-nil (map bare_clause cs)) (so [] (here t) no_clauses))

-- ---- annotations

abbrev pub AnnotationsSoFar : TokenStream → TokenStream → List Annotation → Type 0
AnnotationsSoFar t0 t xs =
    (more : List (Text × Text)) (rest : List Lexeme) → AreAnnotations (here t) more rest → AreAnnotations (here t0) (map bare_annotation xs ++ more) rest

pub annotations_begun : (t : TokenStream) (xs : List Annotation) → xs ≡ [] → AnnotationsSoFar t t xs
annotations_begun t xs e more rest h = subst (λ l. AreAnnotations (here t) (map bare_annotation l ++ more) rest) (sym e) h

pub keys_begun : (xs : List Annotation) → xs ≡ [] → are_distinct (keys_of xs) ≡ true
keys_begun xs e = ap (λ l. are_distinct (keys_of l)) e

pub annotations_more : (xs new : List Annotation) (a : Annotation) (w : Token) (t0 t t1 t2 : TokenStream) → AnnotationsSoFar t0 t xs
    → IsTokenTaken kinds.At w t t1 → IsBehindAt (here t1) (bare_annotation a) (here t2) → new ≡ xs ++ (a ∷ []) → AnnotationsSoFar t0 t2 new
annotations_more xs new a w t0 t t1 t2 so h i e more rest k =
    let one : AreAnnotations (here t) (bare_annotation a ∷ more) rest =
    annotation (subst (λ x. IsAnnotation x (bare_annotation a) (here t2)) (sym h.first) (i w.text.now)) k in
    let same : map bare_annotation xs ++ (bare_annotation a ∷ more) ≡ map bare_annotation new ++ more =
    sym (map_push bare_annotation xs a more) ∙ ap (λ l. map bare_annotation l ++ more) (sym e) in
    subst (λ l. AreAnnotations (here t0) l rest) same (so (bare_annotation a ∷ more) rest one)

pub annotations_ended : (xs : List Annotation) (t0 t t1 : TokenStream) → AnnotationsSoFar t0 t xs → here t1 ≡ here t
    → AreAnnotations (here t0) (map bare_annotation xs) (here t1)
annotations_ended xs t0 t t1 so e =
    subst (λ x. AreAnnotations (here t0) (map bare_annotation xs) x) (sym e)
    (subst (λ l. AreAnnotations (here t0) l (here t)) (append-nil (map bare_annotation xs)) (so [] (here t) no_annotations))

pub keys_more : (xs new : List Annotation) (a : Annotation) → are_distinct (keys_of xs) ≡ true → is_among (rc_str_bytes a.key) (keys_of xs) ≡ false
    → new ≡ xs ++ (a ∷ []) → are_distinct (keys_of new) ≡ true
keys_more xs new a d h e =
    ap (λ l. are_distinct (keys_of l)) e ∙ (ap are_distinct (map_snoc (λ b. rc_str_bytes b.key) xs a) ∙ distinct_more (keys_of xs) (rc_str_bytes a.key) d h)

-- ---- policies

abbrev pub PoliciesSoFar : TokenStream → TokenStream → List Policy → Type 0
PoliciesSoFar t0 t ps = (more : List bare.BarePolicy) → ArePolicies (here t) more → ArePolicies (here t0) (bare_policies ps ++ more)

pub policies_begun : (t : TokenStream) (ps : List Policy) → ps ≡ [] → PoliciesSoFar t t ps
policies_begun t ps e more h = subst (λ l. ArePolicies (here t) (bare_policies l ++ more)) (sym e) h

pub named_begun : (ps : List Policy) → ps ≡ [] → AreNamed ps
named_begun ps e = subst AreNamed (sym e) (record { ids = refl; distinct = refl })

pub policies_more : (ps new : List Policy) (p : Policy) (t0 t t1 : TokenStream) → PoliciesSoFar t0 t ps
    → IsPolicy (here t) (bare_policy p.template) (here t1) → new ≡ ps ++ (p ∷ []) → PoliciesSoFar t0 t1 new
policies_more ps new p t0 t t1 so i e more k =
    let same : bare_policies ps ++ (bare_policy p.template ∷ more) ≡ bare_policies new ++ more =
    sym (map_push (λ q. bare_policy q.template) ps p more) ∙ ap (λ l. bare_policies l ++ more) (sym e) in
    subst (ArePolicies (here t0)) same (so (bare_policy p.template ∷ more) (policy i k))

pub policies_ended : (ps : List Policy) (t0 t : TokenStream) → PoliciesSoFar t0 t ps → here t ≡ [] → ArePolicies (here t0) (bare_policies ps)
policies_ended ps t0 t so e =
    subst (ArePolicies (here t0)) (append-nil (bare_policies ps)) (so [] (subst (λ x. ArePolicies x []) (sym e) no_policies))

-- the identifiers of one policy more
ids_snoc : (n : ℕ) (ps : List bare.BarePolicy) (p : bare.BarePolicy)
    → policy_ids n (ps ++ (p ∷ [])) ≡ policy_ids n ps ++ (policy_id (n + length ps) p ∷ [])
ids_snoc n [] p = ap (λ m. policy_id m p ∷ []) (omega arith)
ids_snoc n (q ∷ ps) p =
    ap (λ l. policy_id n q ∷ l) (ids_snoc (suc n) ps p ∙ ap (λ m. policy_ids (suc n) ps ++ (policy_id m p ∷ [])) (omega arith))

pub map_length : {A B : Type 0} (f : A → B) (xs : List A) → length (map f xs) ≡ length xs
map_length f [] = refl
map_length f (x ∷ xs) = ap suc (map_length f xs)

pub named_more : (ps new : List Policy) (p : Policy) → AreNamed ps → is_among (rc_str_bytes p.id) (ids_of ps) ≡ false
    → rc_str_bytes p.id ≡ policy_id (length ps) (bare_policy p.template) → new ≡ ps ++ (p ∷ []) → AreNamed new
named_more ps new p h a i e =
    let one : ids_of (ps ++ (p ∷ [])) ≡ ids_of ps ++ (rc_str_bytes p.id ∷ []) = map_snoc (λ q. rc_str_bytes q.id) ps p in
    let bares : bare_policies (ps ++ (p ∷ [])) ≡ bare_policies ps ++ (bare_policy p.template ∷ []) = map_snoc (λ q. bare_policy q.template) ps p in
    let same : length (bare_policies ps) ≡ length ps = map_length (λ q. bare_policy q.template) ps in
    let number : length ps ≡ 0 + length (bare_policies ps) = omega (arith, same) in
    let count : policy_id (length ps) (bare_policy p.template) ≡ policy_id (0 + length (bare_policies ps)) (bare_policy p.template) =
    ap (λ n. policy_id n (bare_policy p.template)) number in
    let ids : ids_of (ps ++ (p ∷ [])) ≡ policy_ids 0 (bare_policies (ps ++ (p ∷ []))) =
    one ∙ (ap (λ l. l ++ (rc_str_bytes p.id ∷ [])) h.ids ∙ (ap (λ k. policy_ids 0 (bare_policies ps) ++ (k ∷ [])) (i ∙ count)
    ∙ (sym (ids_snoc 0 (bare_policies ps) (bare_policy p.template)) ∙ ap (policy_ids 0) (sym bares)))) in
    let distinct : are_distinct (ids_of (ps ++ (p ∷ []))) ≡ true = ap are_distinct one ∙ distinct_more (ids_of ps) (rc_str_bytes p.id) h.distinct a in
    subst AreNamed (sym e) (record { ids = ids; distinct = distinct })
