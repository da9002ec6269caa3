-- What stands in scopes, token by token.
use Rattle.std.proofs.Common.{◌≡◌, ℕ, true, List, [], ◌∷◌, ◌++◌, Result, refl, sym, ◌∙◌, ap, subst}
use Rattle.std.proofs.lemmas.Bool.{false≢true}
use Rattle.cedar_names.specs.Names.{BareName}
use Rattle.cedar_names.specs.declared.slot.SlotId.{SlotId}
use Rattle.cedar_names.specs.declared.slot.SlotId.TheVariants as slots
use Rattle.cedar_terms.specs.Entities.{BareEntityUID}
use Rattle.cedar_terms.specs.Ops.{var_text}
use Rattle.cedar_terms.specs.declared.var.Var.{Var as Variable}
use Rattle.cedar_terms.specs.declared.var.Var.TheVariants as variables
use Rattle.cedar_lexer.specs.declared.parse_failure.ParseFailure.{ParseFailure}
use Rattle.cedar_lexer.specs.declared.token.TokenKind.{TokenKind}
use Rattle.cedar_lexer.specs.declared.token.TokenKind.TheVariants as kinds
use Rattle.cedar_lexer.specs.declared.token_stream.TokenStream.{TokenStream}
use Rattle.semantics_grammar.specs.Lexemes.{Lexeme, lexeme}
use Rattle.cedar_parser.specs.Ahead.{ends_path}
use Rattle.cedar_parser.specs.Meant.{here}
use Rattle.semantics_policies.specs.Grammar.{EndsScope, closed, comma_closed, IsActionScope, any_of_them, equal_to, within_one, within_set, IsScope, unconstrained, equal, within, of_type, of_type_within, IsWholeScope}
use Rattle.semantics_policies.specs.Policies.{EntityOrSlot, ScopeConstraint, any, equals, is_in, is_of, is_of_in, ActionConstraint, any_action, action_equals}
use Rattle.cedar_policy_parser.specs.Complete.{Begins, BehindType, Completes, Gives, IsActionScopeUpTo, IsActionUpTo, IsBehindIn, one, more, IsBehindIs, IsEnd, IsOperandUpTo, IsScopeUpTo}
use Rattle.cedar_policy_parser.proofs.Firsts.{given_as, taken_rest}

-- ---- types

end_path : (rest : List Lexeme) → IsEnd true rest → ends_path rest ≡ true
end_path [] end = refl
end_path (lexeme kinds.Colons c ∷ ts) end = absurd (false≢true end)
end_path (lexeme k w ∷ ts) end = refl

type_ends : (s : SlotId) (n : BareName) (rest : List Lexeme) → IsEnd true rest → BehindType s n rest (is_of n) rest
type_ends s n [] end = (refl, refl)
type_ends s n (lexeme kinds.In j ∷ ts) end = absurd (false≢true end)
type_ends s n (lexeme k w ∷ ts) end = (refl, refl)

pub type_left : (s : SlotId) (n : BareName) (c : ScopeConstraint) (ts rest : List Lexeme) → (Begins kinds.In ts → ⊥) → BehindType s n ts c rest
    → (ts ≡ rest) × (c ≡ is_of n)
type_left s n c [] rest free h = h
type_left s n c (lexeme kinds.In j ∷ ts) rest free h = absurd (free refl)
type_left s n c (lexeme k w ∷ ts) rest free h = h

-- ---- the principal and the resource

-- behind the variable: maybe a constraint
abbrev pub BehindVariable : SlotId → List Lexeme → ScopeConstraint → List Lexeme → Type 0
BehindVariable s (lexeme kinds.Equal q ∷ ts) c rest = (o : EntityOrSlot) × IsOperandUpTo s ts o rest × (c ≡ equals o)
BehindVariable s (lexeme kinds.In q ∷ ts) c rest = (o : EntityOrSlot) × IsOperandUpTo s ts o rest × (c ≡ is_in o)
BehindVariable s (lexeme kinds.Is q ∷ ts) c rest = IsBehindIs s ts c rest
BehindVariable s ts c rest = (ts ≡ rest) × (c ≡ any)

variable_ends : (s : SlotId) (rest : List Lexeme) → IsEnd true rest → BehindVariable s rest any rest
variable_ends s [] end = (refl, refl)
variable_ends s (lexeme kinds.Equal q ∷ ts) end = absurd (false≢true end)
variable_ends s (lexeme kinds.In q ∷ ts) end = absurd (false≢true end)
variable_ends s (lexeme kinds.Is q ∷ ts) end = absurd (false≢true end)
variable_ends s (lexeme k w ∷ ts) end = (refl, refl)

variable_left : (s : SlotId) (c : ScopeConstraint) (ts rest : List Lexeme) → (Begins kinds.Equal ts → ⊥) → (Begins kinds.In ts → ⊥)
    → (Begins kinds.Is ts → ⊥) → BehindVariable s ts c rest → (ts ≡ rest) × (c ≡ any)
variable_left s c [] rest e i t h = h
variable_left s c (lexeme kinds.Equal q ∷ ts) rest e i t h = absurd (e refl)
variable_left s c (lexeme kinds.In q ∷ ts) rest e i t h = absurd (i refl)
variable_left s c (lexeme kinds.Is q ∷ ts) rest e i t h = absurd (t refl)
variable_left s c (lexeme k w ∷ ts) rest e i t h = h

-- the variable, and what stands behind it
pub record StartsWithVariable (v : Variable) (s : SlotId) (ts : List Lexeme) (c : ScopeConstraint) (rest : List Lexeme) : Type 0 where
  pub behind : List Lexeme
  pub first : ts ≡ lexeme kinds.Word (var_text v) ∷ behind
  pub left : BehindVariable s behind c rest

variable_first : (v : Variable) (s : SlotId) (c : ScopeConstraint) (ts rest : List Lexeme) → IsEnd true rest → IsScope v s ts c rest
    → StartsWithVariable v s ts c rest
variable_first v s c ts rest end (unconstrained e) =
    record { behind = rest; first = ap (λ w. lexeme kinds.Word w ∷ rest) e; left = variable_ends s rest end }
variable_first v s c ts rest end (equal {e = q} {o = o} {ts = xs} e b) = record {
  behind = lexeme kinds.Equal q ∷ (xs ++ rest);
  first = ap (λ w. lexeme kinds.Word w ∷ lexeme kinds.Equal q ∷ (xs ++ rest)) e;
  left = (o, (record { expr = xs; split = refl; stands = b }, end), refl);
}
variable_first v s c ts rest end (within {i = q} {o = o} {ts = xs} e b) = record {
  behind = lexeme kinds.In q ∷ (xs ++ rest);
  first = ap (λ w. lexeme kinds.Word w ∷ lexeme kinds.In q ∷ (xs ++ rest)) e;
  left = (o, (record { expr = xs; split = refl; stands = b }, end), refl);
}
variable_first v s c ts rest end (of_type {i = q} {n = n} {ts = xs} e p) = record {
  behind = lexeme kinds.Is q ∷ xs;
  first = ap (λ w. lexeme kinds.Word w ∷ lexeme kinds.Is q ∷ xs) e;
  left = record { name = n; behind = rest; path = (p, end_path rest end); left = type_ends s n rest end };
}
variable_first v s c ts rest end (of_type_within {i = q} {j = j} {n = n} {o = o} {ts = xs} {us = us} e p b) = record {
  behind = lexeme kinds.Is q ∷ us;
  first = ap (λ w. lexeme kinds.Word w ∷ lexeme kinds.Is q ∷ us) e;
  left =
      record {
        name = n;
        behind = lexeme kinds.In j ∷ (xs ++ rest);
        path = (p, refl);
        left = (o, (record { expr = xs; split = refl; stands = b }, end), refl);
      };
}

pub scope_first : (v : Variable) (s : SlotId) (c : ScopeConstraint) (ts rest : List Lexeme) → IsScopeUpTo v s ts c rest → StartsWithVariable v s ts c rest
scope_first v s c ts rest h = variable_first v s c ts rest h.1 h.0

-- the variable is taken
behind_variable : (v : Variable) (s : SlotId) (c : ScopeConstraint) (w : List ℕ) (t0 t1 rest : List Lexeme) → t0 ≡ lexeme kinds.Word w ∷ t1
    → IsScopeUpTo v s t0 c rest → BehindVariable s t1 c rest
behind_variable v s c w t0 t1 rest h k =
    let f = scope_first v s c t0 rest k in subst (λ b. BehindVariable s b c rest) (sym (taken_rest h f.first)) f.left

-- what is answered behind `==`
pub equal_given : {A : Type 0} (f : A → EntityOrSlot) (v : Variable) (s : SlotId) (c : ScopeConstraint) (w q : List ℕ) (t0 t1 rest : List Lexeme)
    (t2 t3 : TokenStream) (r : Result A ParseFailure) → t0 ≡ lexeme kinds.Word w ∷ t1 → t1 ≡ lexeme kinds.Equal q ∷ here t2
    → Completes f (IsOperandUpTo s) t2 t3 r → IsScopeUpTo v s t0 c rest → Gives (λ x. equals (f x)) c rest t3 r
equal_given f v s c w q t0 t1 rest t2 t3 r h i complete k =
    let b = subst (λ x. BehindVariable s x c rest) i (behind_variable v s c w t0 t1 rest h k) in
    given_as equals f b.0 c rest t3 r b.2 (complete b.0 rest b.1)

-- behind `in`
pub in_given : {A : Type 0} (f : A → EntityOrSlot) (v : Variable) (s : SlotId) (c : ScopeConstraint) (w q : List ℕ) (t0 t1 rest : List Lexeme)
    (t2 t3 : TokenStream) (r : Result A ParseFailure) → t0 ≡ lexeme kinds.Word w ∷ t1 → t1 ≡ lexeme kinds.In q ∷ here t2
    → Completes f (IsOperandUpTo s) t2 t3 r → IsScopeUpTo v s t0 c rest → Gives (λ x. is_in (f x)) c rest t3 r
in_given f v s c w q t0 t1 rest t2 t3 r h i complete k =
    let b = subst (λ x. BehindVariable s x c rest) i (behind_variable v s c w t0 t1 rest h k) in
    given_as is_in f b.0 c rest t3 r b.2 (complete b.0 rest b.1)

-- behind `is`
pub is_given : {A : Type 0} (f : A → ScopeConstraint) (v : Variable) (s : SlotId) (c : ScopeConstraint) (w q : List ℕ) (t0 t1 rest : List Lexeme)
    (t2 t3 : TokenStream) (r : Result A ParseFailure) → t0 ≡ lexeme kinds.Word w ∷ t1 → t1 ≡ lexeme kinds.Is q ∷ here t2
    → Completes f (IsBehindIs s) t2 t3 r → IsScopeUpTo v s t0 c rest → Gives f c rest t3 r
is_given f v s c w q t0 t1 rest t2 t3 r h i complete k =
    complete c rest (subst (λ x. BehindVariable s x c rest) i (behind_variable v s c w t0 t1 rest h k))

-- behind the variable alone
pub any_given : (v : Variable) (s : SlotId) (c : ScopeConstraint) (w : List ℕ) (t0 t1 rest : List Lexeme) → t0 ≡ lexeme kinds.Word w ∷ t1
    → (Begins kinds.Equal t1 → ⊥) → (Begins kinds.In t1 → ⊥) → (Begins kinds.Is t1 → ⊥) → IsScopeUpTo v s t0 c rest → (any ≡ c) × (t1 ≡ rest)
any_given v s c w t0 t1 rest h e i t k =
    let b = variable_left s c t1 rest e i t (behind_variable v s c w t0 t1 rest h k) in (sym b.1, b.0)

-- behind a type and `in`
pub type_in_given : {A : Type 0} (f : A → EntityOrSlot) (s : SlotId) (n m : BareName) (c : ScopeConstraint) (q : List ℕ) (t1 behind rest : List Lexeme)
    (t2 t3 : TokenStream) (r : Result A ParseFailure) → n ≡ m → t1 ≡ behind → t1 ≡ lexeme kinds.In q ∷ here t2 → Completes f (IsOperandUpTo s) t2 t3 r
    → BehindType s m behind c rest → Gives (λ x. is_of_in n (f x)) c rest t3 r
type_in_given f s n m c q t1 behind rest t2 t3 r e g i complete h =
    let b = subst (λ x. BehindType s m x c rest) (sym g ∙ i) h in
    given_as (is_of_in n) f b.0 c rest t3 r (b.2 ∙ ap (λ x. is_of_in x b.0) (sym e)) (complete b.0 rest b.1)

-- behind a type alone
pub type_given : (s : SlotId) (n m : BareName) (c : ScopeConstraint) (t1 behind rest : List Lexeme) → n ≡ m → t1 ≡ behind → (Begins kinds.In t1 → ⊥)
    → BehindType s m behind c rest → (is_of n ≡ c) × (t1 ≡ rest)
type_given s n m c t1 behind rest e g free h =
    let b = type_left s m c t1 rest free (subst (λ x. BehindType s m x c rest) (sym g) h) in (ap is_of e ∙ sym b.1, b.0)

-- ---- the action

-- behind the action: maybe a constraint
abbrev BehindAction : List Lexeme → ActionConstraint → List Lexeme → Type 0
BehindAction (lexeme kinds.Equal q ∷ ts) c rest = (u : BareEntityUID) × IsActionUpTo ts u rest × (c ≡ action_equals u)
BehindAction (lexeme kinds.In q ∷ ts) c rest = IsBehindIn ts c rest
BehindAction ts c rest = (ts ≡ rest) × (c ≡ any_action)

action_ends : (rest : List Lexeme) → IsEnd true rest → BehindAction rest any_action rest
action_ends [] end = (refl, refl)
action_ends (lexeme kinds.Equal q ∷ ts) end = absurd (false≢true end)
action_ends (lexeme kinds.In q ∷ ts) end = absurd (false≢true end)
action_ends (lexeme k w ∷ ts) end = (refl, refl)

action_left : (c : ActionConstraint) (ts rest : List Lexeme) → (Begins kinds.Equal ts → ⊥) → (Begins kinds.In ts → ⊥) → BehindAction ts c rest
    → (ts ≡ rest) × (c ≡ any_action)
action_left c [] rest e i h = h
action_left c (lexeme kinds.Equal q ∷ ts) rest e i h = absurd (e refl)
action_left c (lexeme kinds.In q ∷ ts) rest e i h = absurd (i refl)
action_left c (lexeme k w ∷ ts) rest e i h = h

-- the action, and what stands behind it
record StartsWithAction (ts : List Lexeme) (c : ActionConstraint) (rest : List Lexeme) : Type 0 where
  pub behind : List Lexeme
  pub first : ts ≡ lexeme kinds.Word (var_text variables.Action) ∷ behind
  pub left : BehindAction behind c rest

action_starts : (c : ActionConstraint) (ts rest : List Lexeme) → IsEnd true rest → IsActionScope ts c rest → StartsWithAction ts c rest
action_starts c ts rest end (any_of_them e) =
    record { behind = rest; first = ap (λ w. lexeme kinds.Word w ∷ rest) e; left = action_ends rest end }
action_starts c ts rest end (equal_to {e = q} {u = u} {ts = xs} e a b) = record {
  behind = lexeme kinds.Equal q ∷ (xs ++ rest);
  first = ap (λ w. lexeme kinds.Word w ∷ lexeme kinds.Equal q ∷ (xs ++ rest)) e;
  left = (u, ((record { expr = xs; split = refl; stands = b }, end), a), refl);
}
action_starts c ts rest end (within_one {i = q} {u = u} {ts = xs} e a b) = record {
  behind = lexeme kinds.In q ∷ (xs ++ rest);
  first = ap (λ w. lexeme kinds.Word w ∷ lexeme kinds.In q ∷ (xs ++ rest)) e;
  left = one ((record { expr = xs; split = refl; stands = b }, end), a);
}
action_starts c ts rest end (within_set {i = q} {us = us} {ts = xs} e a b) = record {
  behind = lexeme kinds.In q ∷ (xs ++ rest);
  first = ap (λ w. lexeme kinds.Word w ∷ lexeme kinds.In q ∷ (xs ++ rest)) e;
  left = more (record { expr = xs; split = refl; stands = b }, end) a;
}

-- the word of the action is there
pub record HasActionWord (ts : List Lexeme) : Type 0 where
  pub behind : List Lexeme
  pub first : ts ≡ lexeme kinds.Word (var_text variables.Action) ∷ behind

pub action_word : (c : ActionConstraint) (ts rest : List Lexeme) → IsActionScopeUpTo ts c rest → HasActionWord ts
action_word c ts rest h = let s = action_starts c ts rest h.1 h.0 in record { behind = s.behind; first = s.first }

behind_action : (c : ActionConstraint) (w : List ℕ) (t0 t1 rest : List Lexeme) → t0 ≡ lexeme kinds.Word w ∷ t1 → IsActionScopeUpTo t0 c rest
    → BehindAction t1 c rest
behind_action c w t0 t1 rest h k =
    let f = action_starts c t0 rest k.1 k.0 in subst (λ b. BehindAction b c rest) (sym (taken_rest h f.first)) f.left

pub action_equal_given : {A : Type 0} (f : A → BareEntityUID) (c : ActionConstraint) (w q : List ℕ) (t0 t1 rest : List Lexeme) (t2 t3 : TokenStream)
    (r : Result A ParseFailure) → t0 ≡ lexeme kinds.Word w ∷ t1 → t1 ≡ lexeme kinds.Equal q ∷ here t2 → Completes f IsActionUpTo t2 t3 r
    → IsActionScopeUpTo t0 c rest → Gives (λ x. action_equals (f x)) c rest t3 r
action_equal_given f c w q t0 t1 rest t2 t3 r h i complete k =
    let b = subst (λ x. BehindAction x c rest) i (behind_action c w t0 t1 rest h k) in
    given_as action_equals f b.0 c rest t3 r b.2 (complete b.0 rest b.1)

pub action_in_given : {A : Type 0} (f : A → ActionConstraint) (c : ActionConstraint) (w q : List ℕ) (t0 t1 rest : List Lexeme) (t2 t3 : TokenStream)
    (r : Result A ParseFailure) → t0 ≡ lexeme kinds.Word w ∷ t1 → t1 ≡ lexeme kinds.In q ∷ here t2 → Completes f IsBehindIn t2 t3 r
    → IsActionScopeUpTo t0 c rest → Gives f c rest t3 r
action_in_given f c w q t0 t1 rest t2 t3 r h i complete k =
    complete c rest (subst (λ x. BehindAction x c rest) i (behind_action c w t0 t1 rest h k))

pub any_action_given : (c : ActionConstraint) (w : List ℕ) (t0 t1 rest : List Lexeme) → t0 ≡ lexeme kinds.Word w ∷ t1 → (Begins kinds.Equal t1 → ⊥)
    → (Begins kinds.In t1 → ⊥) → IsActionScopeUpTo t0 c rest → (any_action ≡ c) × (t1 ≡ rest)
any_action_given c w t0 t1 rest h e i k =
    let b = action_left c t1 rest e i (behind_action c w t0 t1 rest h k) in (sym b.1, b.0)

-- ---- the end of a scope

-- a scope ends where a group of tokens does
pub end_of_scope : (ts rest : List Lexeme) → EndsScope ts rest → IsEnd true ts
end_of_scope ts rest closed = refl
end_of_scope ts rest comma_closed = refl

-- ---- a whole scope

module _ {ts : List Lexeme} {p : ScopeConstraint} {a : ActionConstraint} {r : ScopeConstraint} {rest : List Lexeme} (h : IsWholeScope ts p a r rest) where
  abbrev pub past_principal : List Lexeme
  past_principal = lexeme kinds.Comma h.first_comma ∷ h.before_action

  abbrev pub past_action : List Lexeme
  past_action = lexeme kinds.Comma h.second_comma ∷ h.before_resource

  pub principal_there : IsScopeUpTo variables.Principal slots.Principal ts p past_principal
  principal_there = (h.principal, refl)

  pub action_there : {k : TokenKind} {w : List ℕ} {t1 t2 : List Lexeme} → t1 ≡ past_principal → t1 ≡ lexeme k w ∷ t2 → IsActionScopeUpTo t2 a past_action
  action_there is comma = (subst (λ x. IsActionScope x a past_action) (sym (taken_rest comma is)) h.action, refl)

  pub resource_there : {k : TokenKind} {w : List ℕ} {t1 t2 : List Lexeme} → t1 ≡ past_action → t1 ≡ lexeme k w ∷ t2
      → IsScopeUpTo variables.Resource slots.Resource t2 r h.before_end
  resource_there is comma = (
    subst (λ x. IsScope variables.Resource slots.Resource x r h.before_end) (sym (taken_rest comma is)) h.resource,
    end_of_scope h.before_end rest h.end,
  )

  pub end_there : {t1 : List Lexeme} → t1 ≡ h.before_end → EndsScope t1 rest
  end_there is = subst (λ x. EndsScope x rest) (sym is) h.end
