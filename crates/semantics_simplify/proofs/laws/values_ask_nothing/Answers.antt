use Rattle.std.proofs.Common.{refl}
use Rattle.semantics_simplify.specs.Asks.{passes}
use Rattle.semantics_simplify.proofs.Calls.{value_passes}
use Rattle.semantics_simplify.proofs.laws.values_ask_nothing.Goals as goal

pub returns : goal.returns
returns g c C Q t h = value_passes (passes Q) C (λ l. refl) (λ es. refl) (λ fs. refl) t h
