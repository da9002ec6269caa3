-- The text as a whole.
use Rattle.std.proofs.Common.{◌≡◌, ℕ, List, [], ◌∷◌, length, Result, Ok, Err, IfOk, None, Option, map, refl, sym, ap, subst, arith}
use Rattle.cedar_builders.specs.BareExpr.{BareExpr}
use Rattle.cedar_exprs.specs.BareExpr.{bare_expr}
use Rattle.cedar_exprs.specs.declared.expr.Expr.{Expr}
use Rattle.cedar_lexer.specs.TokenPlaces.{AreTokens, AreTokensBefore}
use Rattle.cedar_lexer.specs.TokenStreams.{rest_of, tokens_left}
use Rattle.cedar_lexer.specs.declared.parse_failure.ParseFailure.{ParseFailure}
use Rattle.cedar_lexer.specs.declared.token.Token.{Token}
use Rattle.cedar_lexer.specs.declared.token_stream.TokenStream.{TokenStream}
use Rattle.semantics_grammar.specs.Grammar.{Stands}
use Rattle.semantics_grammar.specs.Lexemes.{Lexeme, lexemes_of}
use Rattle.cedar_parser.specs.Meant.{AreLexemes, HasNoValues, IsParse, IsParsed, here, open_group, open_groups, waiting, waits}
use Rattle.cedar_parser.specs.declared.operand.Operand.{Operand}
use Rattle.cedar_parser.specs.declared.parser.Parser.{Parser}
use Rattle.cedar_parser.proofs.ParserSteps.{moved}
use Rattle.cedar_parser.proofs.Steps.{nothing_parsed}

-- the tokens of a text are tokens of their kinds
pub lexemes_are : (at : ℕ) (text : List ℕ) (ts : List Token) (rest : List ℕ) → AreTokensBefore at text ts rest → AreLexemes (lexemes_of ts)
lexemes_are at text [] rest h = tt
lexemes_are at text (t ∷ ts) rest h = (h.3.4, lexemes_are t.span.stop h.1 ts rest h.4)

-- nothing is parsed yet
pub begun : (t : TokenStream) (r : Parser) → AreLexemes (here t) → r.operations.items ≡ [] → r.groups.items ≡ [] → HasNoValues r.nodes
    → IsParsed (here t) r None (here t)
begun t r lex ops groups none = record {
  no_values = none;
  lexemes = lex;
  so_far = moved (here t) (here t) [] (open_groups r) [] (waits r) None None (sym (ap (map open_group) groups)) (sym (ap (map waiting) ops)) refl
      (nothing_parsed (here t));
}

-- the tokens that a stream begins with are tokens of their kinds
pub lexemes_of_text : (text : List ℕ) (found : List Token) (t : TokenStream) → AreTokens text found → rest_of t ≡ found → AreLexemes (here t)
lexemes_of_text text found t are same = subst (λ ts. AreLexemes (lexemes_of ts)) (sym same) (lexemes_are 0 text found [] are)

none_left : (ts : List Token) → length ts ≡ 0 → lexemes_of ts ≡ []
none_left [] e = refl
none_left (t ∷ ts) e = absurd (omega (arith, e))

-- all tokens are parsed
pub ended_tokens : (first last : TokenStream) (r : Parser) (h : Option Operand) (res : Result (Expr Unit) ParseFailure) → tokens_left last ≡ 0
    → IsParsed (here first) r h (here last) → IfOk res (λ e. (ts : List Lexeme) → IsParsed ts r h [] → Stands ts (bare_expr e))
    → IfOk res (λ e. Stands (here first) (bare_expr e))
ended_tokens first last r h (Err e) none parsed made = tt
ended_tokens first last r h (Ok e) none parsed made =
    made (here first) (subst (IsParsed (here first) r h) (none_left (rest_of last) none) parsed)

-- the tokens are those of the text
pub text_parsed : (text : List ℕ) (found : List Token) (t : TokenStream) (e : BareExpr) → AreTokens text found → rest_of t ≡ found
    → Stands (here t) e → IsParse text e
text_parsed text found t e are same stands = (found, are, subst (λ ts. Stands (lexemes_of ts) e) same stands)
