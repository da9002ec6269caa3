use Rattle.std.proofs.Common.{◌∷◌}
use Rattle.cedar_builders.specs.Walks.{forward}
use Rattle.cedar_exprs.proofs.BareWalks.{preorder_bare}
use Rattle.cedar_exprs.proofs.WalkSteps.{walk_is}
use Rattle.cedar_exprs.proofs.laws.nodes_in_preorder.Goals as goal

pub returns : goal.returns
returns g c = record { order = walk_is (λ e below. e ∷ forward below); trees = preorder_bare }
