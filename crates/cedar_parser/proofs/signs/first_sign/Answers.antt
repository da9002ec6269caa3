use Rattle.std.proofs.Common.{◌∙◌, refl, arith}
use Rattle.cedar_parser.proofs.InOrder.{earlier, taken}
use Rattle.cedar_parser.proofs.signs.first_sign.Goals as goal

pub tokens-init : goal.tokens-init
tokens-init c = record { before = c.requires; fits = refl }

pub tokens-preserved : goal.tokens-preserved
tokens-preserved c =
    let k = taken 0 c.tokens.left c.next.new.self c.in-Some.token c.tokens.invariant.before c.in-Some.ensures.gives in
    record { before = earlier c.in-Some.token.span.stop 0 c.next.new.self (omega arith) k.0.before; fits = k.1 ∙ c.tokens.invariant.fits }
