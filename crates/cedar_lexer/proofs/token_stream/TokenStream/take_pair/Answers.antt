use Rattle.std.proofs.Common.{get_or, refl, rules, sym}
use denote.Enum.Bare.{same_true}
use Rattle.cedar_lexer.specs.contracts.token.TokenKind.{the_type}
use Rattle.cedar_lexer.proofs.Pairs.{two_first}
use Rattle.cedar_lexer.proofs.Taken.{pair_begins}
use Rattle.cedar_lexer.proofs.token_stream.TokenStream.take_pair.Goals as goal

pub returns-in-len2-up-clause-gives : goal.returns-in-len2-up-clause-gives
returns-in-len2-up-clause-gives c = (
  same_true the_type (search rules) _ _ (sym c.if-eq-2.ensures),
  (
    get_or c.args.self.now.rest.now 0 _,
    same_true the_type (search rules) _ _ (sym c.if-eq.ensures),
    two_first c.args.self.now.rest.now _ c.in-len2-up.len_at_least,
    refl,
  ),
)

pub returns-in-len2-up-clause-exact : goal.returns-in-len2-up-clause-exact
returns-in-len2-up-clause-exact c = (
  λ _.
      pair_begins c.args.first c.args.second c.args.self.now.rest.now _ c.in-len2-up.len_at_least
      (same_true the_type (search rules) _ _ (sym c.if-eq.ensures)) (same_true the_type (search rules) _ _ (sym c.if-eq-2.ensures)),
  λ _. refl,
)
