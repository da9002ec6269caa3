-- Parts of policies, as they are taken from a stream of tokens.
use Rattle.std.specs.Prelude.{◌≡◌, ◌<◌, ◌≤◌, ℕ, not, List, ◌∷◌, ◌++◌, MatchResult, Result, IsTrue}
use Rattle.std.specs.List.{list_all}
use Rattle.cedar_builders.specs.BareExpr.{BareExpr}
use Rattle.cedar_lexer.specs.Grammar.{IsTokenText}
use Rattle.cedar_lexer.specs.TokenPlaces.{AreTokens}
use Rattle.cedar_lexer.specs.TokenStreams.{tokens_left}
use Rattle.cedar_lexer.specs.declared.parse_failure.ParseFailure.{ParseFailure}
use Rattle.cedar_lexer.specs.declared.token.Token.{Token}
use Rattle.cedar_lexer.specs.declared.token.TokenKind.{TokenKind}
use Rattle.cedar_lexer.specs.declared.token_stream.TokenStream.{TokenStream}
use Rattle.cedar_lexer.specs.declared.token.TokenKind.TheVariants as kinds
use Rattle.semantics_grammar.specs.Grammar.{Stands}
use Rattle.semantics_grammar.specs.Lexemes.{Lexeme, lexeme, lexemes_of}
use Rattle.semantics_policies.specs.Grammar.{ArePolicies, IsClauseOf, is_slot_token}
use Rattle.semantics_policies.specs.Policies.{BarePolicy}
use Rattle.cedar_parser.specs.Meant.{AreLexemes, HasEnd, here}
use Rattle.cedar_parser.specs.Refused.{IsBefore, IsWithin, stop_of}

-- the tokens that are left are tokens of their kinds, in order, and what stands behind them is none
pub record IsSound (tokens : TokenStream) : Type 0 where
  pub order : IsBefore 0 tokens
  pub lexemes : AreLexemes (here tokens)
  pub end : HasEnd tokens

-- of the tokens some are left, up to the same end
pub record IsRest (old new : TokenStream) : Type 0 where
  pub sound : IsSound new
  pub stop : stop_of new ≡ stop_of old
  pub left : tokens_left new ≤ tokens_left old

-- a token of this kind is taken, which is a piece of the text
pub record IsTokenTaken (kind : TokenKind) (t : Token) (old new : TokenStream) : Type 0 where
  pub first : here old ≡ lexeme kind t.text.now ∷ here new
  pub text : IsTokenText t.text.now kind
  pub begins : t.span.start ≤ t.span.stop
  pub ends : t.span.stop ≤ stop_of old
  pub rest : IsRest old new
  pub fewer : tokens_left new < tokens_left old

-- a part with which the tokens begin is parsed, and the rest is left; or the failure is about a piece of the text
abbrev pub Parses : {A : Type 0} → (List Lexeme → A → List Lexeme → Type 0) → TokenStream → TokenStream → Result A ParseFailure → Type 0
Parses P old new result = MatchResult result (λ x. P (here old) x (here new) × IsRest old new) (IsWithin (stop_of old))

-- the tokens begin with some that stand for this tree, and the rest follows
pub record BeginsWithExpr (ts : List Lexeme) (e : BareExpr) (rest : List Lexeme) : Type 0 where
  pub expr : List Lexeme
  pub split : ts ≡ expr ++ rest
  pub stands : Stands expr e

-- tokens are taken, which are a stream of their own
pub record IsGroupTaken (group old new : TokenStream) : Type 0 where
  pub all : here old ≡ here group ++ here new
  pub sound : IsSound group
  pub ends : stop_of group ≤ stop_of old
  pub rest : IsRest old new

-- no token is a slot
abbrev pub HasNoSlot : List Lexeme → Type 0
HasNoSlot ts = IsTrue (list_all (λ t. not (is_slot_token t)) ts)

-- the tokens begin with an expression in curly brackets, without slots, and the rest follows
pub record IsBody (ts : List Lexeme) (e : BareExpr) (rest : List Lexeme) : Type 0 where
  pub opened : List ℕ
  pub closed : List ℕ
  pub expr : List Lexeme
  pub split : ts ≡ lexeme kinds.OpenCurly opened ∷ (expr ++ (lexeme kinds.CloseCurly closed ∷ rest))
  pub clause : IsClauseOf expr e

-- this word is taken
pub record IsEffectTaken (word : List ℕ) (old new : TokenStream) : Type 0 where
  pub first : here old ≡ lexeme kinds.Word word ∷ here new
  pub rest : IsRest old new
  pub fewer : tokens_left new < tokens_left old

-- the text is tokens with blanks around them, and they are these policies
abbrev pub ArePoliciesOf : List ℕ → List BarePolicy → Type 0
ArePoliciesOf text ps = (ts : List Token) × AreTokens text ts × ArePolicies (lexemes_of ts) ps
