use Rattle.std.proofs.Common.{◌∷◌}
use Rattle.cedar_builders.specs.Walks.{backward}
use Rattle.cedar_exprs.proofs.WalkSteps.{walk_is}
use Rattle.cedar_exprs.proofs.laws.positions_by_children.Goals as goal

pub returns : goal.returns
returns g c = walk_is (λ e below. e ∷ backward below)
