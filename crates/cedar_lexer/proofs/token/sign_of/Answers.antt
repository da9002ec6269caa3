use Rattle.std.proofs.lemmas.Bool.{false≢true}
use Rattle.cedar_lexer.proofs.FirstTokenLemmas.{sign_not_cut}
use Rattle.cedar_lexer.proofs.token.sign_of.Goals as goal

pub returns-in-None : goal.returns-in-None
returns-in-None c = sign_not_cut c.args.text.now c.args.width c.utf8.text (λ h. false≢true (c.in-None.ensures.variant.1 h))
