-- What stands behind the path of a word, over the tokens of a stream: an entity's text behind `::`, or a variable's end.
use Rattle.std.proofs.Common.{◌≡◌, ℕ, List, ◌∷◌, refl, sym, ◌∙◌, ap, subst}
use Rattle.cedar_terms.specs.Ops.{var_text}
use Rattle.cedar_terms.specs.declared.var.Var.{Var as Variable}
use Rattle.cedar_terms.specs.declared.precedence.Precedence.TheVariants as precedences
use Rattle.cedar_builders.specs.BareExpr.{Text}
use Rattle.cedar_lexer.specs.TokenStreams.{BeginsWith, IsTaken, IsUntouched, rest_of}
use Rattle.cedar_lexer.specs.declared.token.Token.{Token}
use Rattle.cedar_lexer.specs.declared.token.TokenKind.TheVariants as kinds
use Rattle.cedar_lexer.specs.declared.token_stream.TokenStream.{TokenStream}
use Rattle.semantics_grammar.specs.Lexemes.{Lexeme, lexeme}
use Rattle.semantics_grammar.specs.Written.{IsTextOf}
use Rattle.cedar_parser.specs.Ahead.{Rest}
use Rattle.cedar_parser.specs.Meant.{first_kind, here, open_groups, waits}
use Rattle.cedar_parser.specs.declared.parser.Parser.{Parser}
use Rattle.cedar_parser.proofs.TakenSteps.{taken_is, untouched_here}
use Rattle.cedar_parser.proofs.CompleteRows.{WordBegins, WordIs}
use Rattle.cedar_parser.proofs.CompleteTokens.{first_other, no_end}
use Rattle.cedar_parser.proofs.WordSteps.{entity_behind, variable_behind}

module _ (r : Parser) (path : Text) (t1 t2 : TokenStream) (b : WordBegins r path (here t1)) where
  pub entity_next : (t : Token) → t.kind ≡ kinds.Colons → IsTaken t1 t t2
      → (q : List ℕ) × (s : Text) × (rest : List Lexeme) × (here t2 ≡ lexeme kinds.Quoted q ∷ rest) × IsTextOf q s
      × Rest (open_groups r) (waits r) precedences.Member rest
  entity_next t colons taken =
      entity_behind (open_groups r) (waits r) path t.text.now (here t2)
      (subst (WordIs (open_groups r) (waits r) path) (taken_is t1 t2 t kinds.Colons colons taken) b.goes_on)

  pub variable_next : (t3 : TokenStream) → IsUntouched t1 t2 → IsUntouched t2 t3 → (BeginsWith kinds.Colons (rest_of t1) → ⊥)
      → (BeginsWith kinds.OpenRound (rest_of t2) → ⊥)
      → (v : Variable) × (path ≡ var_text v) × Rest (open_groups r) (waits r) precedences.Member (here t2)
  variable_next t3 u v colons round =
      let first = first_other kinds.Colons t1 t2 colons (no_end kinds.Colons refl) u in
      let second = first_other kinds.OpenRound t2 t3 round (no_end kinds.OpenRound refl) v in
      variable_behind (open_groups r) (waits r) path (here t2) first (λ e. second (ap first_kind (sym (untouched_here t2 t3 v)) ∙ e))
      (subst (WordIs (open_groups r) (waits r) path) (untouched_here t1 t2 u) b.goes_on)
