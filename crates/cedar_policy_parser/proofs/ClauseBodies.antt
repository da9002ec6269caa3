-- The body of a clause: the group of tokens in its brackets is the expression.
use Rattle.std.proofs.Common.{◌≡◌, ℕ, false, List, ◌∷◌, ◌++◌, refl, sym, subst}
use Rattle.cedar_builders.specs.BareExpr.{BareExpr}
use Rattle.cedar_lexer.specs.declared.token.TokenKind.TheVariants as kinds
use Rattle.semantics_grammar.specs.Grammar.{Stands}
use Rattle.semantics_grammar.specs.Lexemes.{Lexeme, lexeme}
use Rattle.cedar_policy_parser.specs.Complete.{IsEnd}
use Rattle.cedar_policy_parser.specs.Streams.{HasNoSlot, IsBody}
use Rattle.cedar_policy_parser.proofs.Firsts.{taken_rest}

-- the group of tokens is the expression, and the bracket follows
pub record IsInside (group : List Lexeme) (e : BareExpr) (behind rest : List Lexeme) : Type 0 where
  pub stands : Stands group e
  pub no_slot : HasNoSlot group
  pub closed : List ℕ
  pub left : behind ≡ lexeme kinds.CloseCurly closed ∷ rest

pub body_inside : (o : List ℕ) (e : BareExpr) (t0 t1 group behind rest : List Lexeme) → t0 ≡ lexeme kinds.OpenCurly o ∷ t1
    → ((e : BareExpr) (expr rest : List Lexeme) → t1 ≡ expr ++ rest → Stands expr e → IsEnd false rest → (group ≡ expr) × (behind ≡ rest))
    → IsBody t0 e rest → IsInside group e behind rest
body_inside o e t0 t1 group behind rest h whole b =
    let w = whole e b.expr (lexeme kinds.CloseCurly b.closed ∷ rest) (taken_rest h b.split) b.clause.stands refl in record {
      stands = subst (λ x. Stands x e) (sym w.0) b.clause.stands;
      no_slot = subst HasNoSlot (sym w.0) b.clause.no_slot;
      closed = b.closed;
      left = w.1;
    }
