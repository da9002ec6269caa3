use Rattle.cedar_terms.specs.Literals.{bare_literal}
use Rattle.cedar_terms.specs.LiteralOrder.{literal_fed-alike}
use Rattle.cedar_terms.proofs.laws.hashed_literals.Goals as goal

pub returns-clause-alike : goal.returns-clause-alike
returns-clause-alike c = λ x y h. literal_fed-alike (bare_literal x) (bare_literal y) h
