use Rattle.std.proofs.Common.{refl}
use Rattle.cedar_values.proofs.PartialEquality.{by_cases}
use Rattle.cedar_values.proofs.laws.equal_partial_values.Goals as goal

pub returns : goal.returns
returns g c = by_cases _ _ _ (λ v w. c.order_of_values.ensures.same v w) (λ e f. refl) (λ v f. refl) (λ e w. refl)
