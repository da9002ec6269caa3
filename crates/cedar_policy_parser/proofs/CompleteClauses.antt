-- Clauses: what is left of them, and what the next one is.
use Rattle.std.proofs.Common.{◌≡◌, ℕ, Bool, true, false, List, [], ◌∷◌, ◌++◌, map, append-nil, Result, refl, sym, ◌∙◌, ap, subst}
use Rattle.std.specs.Prelude.{codes}
use Rattle.std.specs.Str.{bytes_eq}
use Rattle.std.proofs.lemmas.Bool.{false≢true}
use Rattle.cedar_builders.specs.BareExpr.{BareExpr}
use Rattle.cedar_lexer.specs.declared.parse_failure.ParseFailure.{ParseFailure}
use Rattle.cedar_lexer.specs.declared.token.TokenKind.{TokenKind}
use Rattle.cedar_lexer.specs.declared.token.TokenKind.TheVariants as kinds
use Rattle.cedar_lexer.specs.declared.token_stream.TokenStream.{TokenStream}
use Rattle.semantics_grammar.specs.Lexemes.{Lexeme, lexeme}
use Rattle.cedar_parser.specs.Meant.{here}
use Rattle.semantics_policies.specs.Grammar.{AreClauses, no_clauses, clause, IsClause, when_clause, unless_clause}
use Rattle.semantics_policies.specs.Policies.{Clause as BareClause, when_true, unless_true}
use Rattle.cedar_policies.specs.Policies.{bare_clause}
use Rattle.cedar_policies.specs.declared.policy.Clause.{Clause}
use Rattle.cedar_policy_parser.specs.Complete.{Begins, Completes, Gives}
use Rattle.cedar_policy_parser.specs.Streams.{IsBody}
use Rattle.cedar_policy_parser.proofs.Firsts.{given_as, taken_rest, taken_text}
use Rattle.cedar_policy_parser.proofs.CompleteAnnotations.{one_more, other_kind}

-- ---- one clause

-- behind the word, which is this one, a body
abbrev pub BehindWord : List ℕ → List Lexeme → BareClause → List Lexeme → Type 0
BehindWord w ts (when_true e) rest = (w ≡ codes "when") × IsBody ts e rest
BehindWord w ts (unless_true e) rest = (w ≡ codes "unless") × IsBody ts e rest

-- the word of a clause, and what stands behind it
record StartsWithWord (ts : List Lexeme) (c : BareClause) (rest : List Lexeme) : Type 0 where
  pub word : List ℕ
  pub behind : List Lexeme
  pub first : ts ≡ lexeme kinds.Word word ∷ behind
  pub left : BehindWord word behind c rest

word_first : (ts : List Lexeme) (c : BareClause) (rest : List Lexeme) → IsClause ts c rest → StartsWithWord ts c rest
word_first ts c rest (when_clause {w = w} {o = o} d {e = e} {ts = xs} is h) = record {
  word = w;
  behind = lexeme kinds.OpenCurly o ∷ (xs ++ (lexeme kinds.CloseCurly d ∷ rest));
  first = refl;
  left = (is, record { opened = o; closed = d; expr = xs; split = refl; clause = h });
}
word_first ts c rest (unless_clause {w = w} {o = o} d {e = e} {ts = xs} is h) = record {
  word = w;
  behind = lexeme kinds.OpenCurly o ∷ (xs ++ (lexeme kinds.CloseCurly d ∷ rest));
  first = refl;
  left = (is, record { opened = o; closed = d; expr = xs; split = refl; clause = h });
}

behind_word : (w : List ℕ) (ts : List Lexeme) (c : BareClause) (rest : List Lexeme) → IsClause (lexeme kinds.Word w ∷ ts) c rest → BehindWord w ts c rest
behind_word w ts c rest h =
    let s = word_first (lexeme kinds.Word w ∷ ts) c rest h in
    let text : s.word ≡ w = sym (taken_text {t1 = ts} refl s.first) in
    let same : s.behind ≡ ts = sym (taken_rest {t1 = ts} refl s.first) in
    subst (λ x. BehindWord w x c rest) same (subst (λ x. BehindWord x s.behind c rest) text s.left)

-- the words differ
two_words : (w : List ℕ) → w ≡ codes "when" → w ≡ codes "unless" → ⊥
two_words w h k = false≢true (ap (λ x. bytes_eq x (codes "when")) (sym k ∙ h))

pub when_given : {A : Type 0} (f : A → BareExpr) (w : List ℕ) (c : BareClause) (rest : List Lexeme) (t0 t1 : TokenStream) (r : Result A ParseFailure)
    → w ≡ codes "when" → Completes f IsBody t0 t1 r → IsClause (lexeme kinds.Word w ∷ here t0) c rest → Gives (λ x. when_true (f x)) c rest t1 r
when_given f w c rest t0 t1 r is complete h = given c (behind_word w (here t0) c rest h)
  where
    given : (c : BareClause) → BehindWord w (here t0) c rest → Gives (λ x. when_true (f x)) c rest t1 r
    given (when_true e) b = given_as when_true f e (when_true e) rest t1 r refl (complete e rest b.1)
    given (unless_true e) b = absurd (two_words w is b.0)

pub unless_given : {A : Type 0} (f : A → BareExpr) (w : List ℕ) (c : BareClause) (rest : List Lexeme) (t0 t1 : TokenStream) (r : Result A ParseFailure)
    → w ≡ codes "unless" → Completes f IsBody t0 t1 r → IsClause (lexeme kinds.Word w ∷ here t0) c rest → Gives (λ x. unless_true (f x)) c rest t1 r
unless_given f w c rest t0 t1 r is complete h = given c (behind_word w (here t0) c rest h)
  where
    given : (c : BareClause) → BehindWord w (here t0) c rest → Gives (λ x. unless_true (f x)) c rest t1 r
    given (when_true e) b = absurd (two_words w b.0 is)
    given (unless_true e) b = given_as unless_true f e (unless_true e) rest t1 r refl (complete e rest b.1)

-- no other word begins a clause
pub no_other_word : (w : List ℕ) (c : BareClause) (ts rest : List Lexeme) → (w ≡ codes "when" → ⊥) → (w ≡ codes "unless" → ⊥)
    → IsClause (lexeme kinds.Word w ∷ ts) c rest → ⊥
no_other_word w c ts rest a b h = none c (behind_word w ts c rest h)
  where
    none : (c : BareClause) → BehindWord w ts c rest → ⊥
    none (when_true e) x = a x.0
    none (unless_true e) x = b x.0

-- ---- several clauses

-- behind those that are parsed others stand
pub record AreClausesLeft (done found : List BareClause) (ts rest : List Lexeme) : Type 0 where
  pub more : List BareClause
  pub all : found ≡ done ++ more
  pub left : AreClauses ts more rest

pub record IsNextClause (done found : List BareClause) (w : List ℕ) (ts rest : List Lexeme) : Type 0 where
  pub next : BareClause
  pub more : List BareClause
  pub behind : List Lexeme
  pub all : found ≡ done ++ (next ∷ more)
  pub one : IsClause (lexeme kinds.Word w ∷ ts) next behind
  pub others : AreClauses behind more rest

begins_word : (c : BareClause) (ts rest : List Lexeme) → IsClause ts c rest → Begins kinds.Word ts
begins_word c ts rest (when_clause d w h) = refl
begins_word c ts rest (unless_clause d w h) = refl

abbrev is_word : TokenKind → Bool
is_word kinds.Word = true
is_word k = false

one_next : (done found more : List BareClause) (w : List ℕ) (ts us rest : List Lexeme) → Begins kinds.Semicolon rest → ts ≡ lexeme kinds.Word w ∷ us
    → found ≡ done ++ more → AreClauses ts more rest → IsNextClause done found w us rest
one_next done found more w ts us rest b e all no_clauses =
    absurd (other_kind is_word kinds.Semicolon kinds.Word ts refl refl b (subst (Begins kinds.Word) (sym e) refl))
one_next done found more w ts us rest b e all (clause {c = c} {cs = others} {us = xs} h left) =
    record { next = c; more = others; behind = xs; all = all; one = subst (λ x. IsClause x c xs) e h; others = left }

pub clause_next : (done found : List BareClause) (w : List ℕ) (ts us rest : List Lexeme) → Begins kinds.Semicolon rest → ts ≡ lexeme kinds.Word w ∷ us
    → AreClausesLeft done found ts rest → IsNextClause done found w us rest
clause_next done found w ts us rest b e h = one_next done found h.more w ts us rest b e h.all h.left

none_next : (more : List BareClause) (ts rest : List Lexeme) → (Begins kinds.Word ts → ⊥) → AreClauses ts more rest → (more ≡ []) × (ts ≡ rest)
none_next more ts rest free no_clauses = (refl, refl)
none_next more ts rest free (clause {c = c} {us = us} h left) = absurd (free (begins_word c ts us h))

pub clauses_given : (done found : List BareClause) (ts rest : List Lexeme) → (Begins kinds.Word ts → ⊥) → AreClausesLeft done found ts rest
    → (done ≡ found) × (ts ≡ rest)
clauses_given done found ts rest free h =
    let n = none_next h.more ts rest free h.left in (sym (h.all ∙ (ap (λ l. done ++ l) n.0 ∙ append-nil done)), n.1)

pub clause_more : (xs new : List Clause) (x : Clause) (found : List BareClause) (w : List ℕ) (us rest t2 : List Lexeme) → new ≡ xs ++ (x ∷ [])
    → (n : IsNextClause (map bare_clause xs) found w us rest) → bare_clause x ≡ n.next → t2 ≡ n.behind
    → AreClausesLeft (map bare_clause new) found t2 rest
clause_more xs new x found w us rest t2 e n i b = record {
  more = n.more;
  all = one_more bare_clause xs new x found n.more n.next e i n.all;
  left = subst (λ y. AreClauses y n.more rest) (sym b) n.others;
}
