use Rattle.std.proofs.Common.{rules}
use Rattle.cedar_terms.proofs.Decision.{matches-here}
use Rattle.cedar_terms.proofs.splits.+try_splits.Goals as goal

pub returns-then-here : goal.returns-then-here
returns-then-here t c =
    matches-here _ _ _ _ c.in-Some-Wildcard-default.ensures.cases.0 c.in-Some-Wildcard-default.field-0-0-is (search rules)
