-- The end of a scope: a bracket, with maybe a comma before it.
use Rattle.std.proofs.Common.{◌≡◌, ℕ, List, ◌∷◌, refl, subst}
use Rattle.cedar_lexer.specs.declared.token.TokenKind.TheVariants as kinds
use Rattle.semantics_grammar.specs.Lexemes.{Lexeme, lexeme}
use Rattle.semantics_policies.specs.Grammar.{EndsScope, closed, comma_closed}
use Rattle.cedar_policy_parser.specs.Complete.{Begins}

-- a bracket, or a comma and a bracket
abbrev BehindScope : List Lexeme → List Lexeme → Type 0
BehindScope (lexeme kinds.Comma m ∷ ts) rest = (c : List ℕ) × (ts ≡ lexeme kinds.CloseRound c ∷ rest)
BehindScope ts rest = (c : List ℕ) × (ts ≡ lexeme kinds.CloseRound c ∷ rest)

scope_ends : (ts rest : List Lexeme) → EndsScope ts rest → BehindScope ts rest
scope_ends ts rest (closed {c = c}) = (c, refl)
scope_ends ts rest (comma_closed {c = c}) = (c, refl)

pub record StartsWithRound (ts rest : List Lexeme) : Type 0 where
  pub bracket : List ℕ
  pub split : ts ≡ lexeme kinds.CloseRound bracket ∷ rest

pub round_behind : (m : List ℕ) (t0 t1 rest : List Lexeme) → t0 ≡ lexeme kinds.Comma m ∷ t1 → EndsScope t0 rest → StartsWithRound t1 rest
round_behind m t0 t1 rest e h =
    let b = subst (λ x. BehindScope x rest) e (scope_ends t0 rest h) in record { bracket = b.0; split = b.1 }

pub round_first : (ts rest : List Lexeme) → (Begins kinds.Comma ts → ⊥) → EndsScope ts rest → StartsWithRound ts rest
round_first ts rest free (closed {c = c}) = record { bracket = c; split = refl }
round_first ts rest free comma_closed = absurd (free refl)
