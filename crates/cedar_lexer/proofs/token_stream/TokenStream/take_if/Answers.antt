use Rattle.std.proofs.Common.{◌∙◌, ap, sym}
use Rattle.std.proofs.lemmas.Bool.{false≢true}
use denote.Enum.Bare.{same_false}
use Rattle.cedar_lexer.specs.contracts.token.TokenKind.{the_type}
use Rattle.cedar_lexer.specs.TokenStreams.{end_of, rest_of}
use Rattle.cedar_lexer.proofs.Taken.{first_begins}
use Rattle.cedar_lexer.proofs.token_stream.TokenStream.take_if.Goals as goal

pub returns-else-eq-clause-exact : goal.returns-else-eq-clause-exact
returns-else-eq-clause-exact c = (
  λ h. absurd (false≢true h),
  λ h.
      absurd (same_false the_type _ _ (sym c.if-eq.ensures)
      (ap (λ t. t.kind) c.first.ensures ∙ first_begins c.args.kind (end_of c.args.self.now) (rest_of c.args.self.now) h)),
)
