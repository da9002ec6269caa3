-- What annotations are parsed from.
use Rattle.std.specs.Prelude.{◌≡◌, ℕ, true, List, ◌∷◌, map, IsTrue}
use Rattle.std.specs.Rc.{rc_str_bytes}
use Rattle.cedar_builders.specs.BareExpr.{Text}
use Rattle.cedar_builders.specs.Keys.{are_distinct}
use Rattle.cedar_lexer.specs.declared.token.Token.{Token}
use Rattle.cedar_lexer.specs.declared.token.TokenKind.{TokenKind}
use Rattle.cedar_lexer.specs.declared.token.TokenKind.TheVariants as kinds
use Rattle.cedar_lexer.specs.declared.token_stream.TokenStream.{TokenStream}
use Rattle.semantics_grammar.specs.Lexemes.{Lexeme, lexeme}
use Rattle.semantics_grammar.specs.Written.{IsTextOf}
use Rattle.semantics_policies.specs.Grammar.{AreAnnotations, IsAnnotation, is_word_kind}
use Rattle.cedar_policies.specs.Policies.{bare_annotation}
use Rattle.cedar_policies.specs.declared.policy.Annotation.{Annotation}
use Rattle.cedar_policy_parser.specs.Streams.{IsTokenTaken}

-- their keys
abbrev pub keys_of : List Annotation → List Text
keys_of = map (λ a. rc_str_bytes a.key)

-- the tokens begin with these annotations, of which no two have the same key, and the rest follows
pub record AreAnnotationsOf (ts : List Lexeme) (found : List Annotation) (rest : List Lexeme) : Type 0 where
  pub all : AreAnnotations ts (map bare_annotation found) rest
  pub keys : IsTrue (are_distinct (keys_of found))

-- behind `@` the tokens begin with this annotation, and the rest follows
abbrev pub IsBehindAt : List Lexeme → Text × Text → List Lexeme → Type 0
IsBehindAt ts a rest = (at : List ℕ) → IsAnnotation (lexeme kinds.At at ∷ ts) a rest

-- the tokens begin with a text in quotes and a round bracket, and the rest follows
pub record IsClosedText (ts : List Lexeme) (t : Text) (rest : List Lexeme) : Type 0 where
  pub quoted : List ℕ
  pub bracket : List ℕ
  pub split : ts ≡ lexeme kinds.Quoted quoted ∷ lexeme kinds.CloseRound bracket ∷ rest
  pub text : IsTextOf quoted t

-- a word is taken
pub record IsKeyTaken (t : Token) (old new : TokenStream) : Type 0 where
  pub kind : TokenKind
  pub word : is_word_kind kind ≡ true
  pub taken : IsTokenTaken kind t old new
