use Rattle.std.proofs.Common.{◌∷◌, ◌∙◌, ap}
use Rattle.cedar_terms.specs.Ops.{var_text}
use Rattle.cedar_lexer.specs.declared.token.TokenKind.TheVariants as kinds
use Rattle.semantics_grammar.specs.Lexemes.{lexeme}
use Rattle.cedar_policy_parser.proofs.scope.variable.Goals as goal

pub returns-in-Principal-clause-present : goal.returns-in-Principal-clause-present
returns-in-Principal-clause-present c rest e =
    c.word.ensures.present rest (e ∙ ap (λ v. lexeme kinds.Word (var_text v) ∷ rest) c.in-Principal.is)
