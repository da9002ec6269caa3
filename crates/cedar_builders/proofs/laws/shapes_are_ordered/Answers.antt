use Rattle.std.specs.Cmp.{Equal-is}
use Rattle.cedar_builders.specs.Shapes.{shape_cmp}
use Rattle.cedar_builders.specs.ShapeOrder.{shape_cmp_total, shapes_decide}
use Rattle.cedar_builders.proofs.laws.shapes_are_ordered.Goals as goal

pub returns-clause-total : goal.returns-clause-total
returns-clause-total c = shape_cmp_total

pub returns-clause-exact : goal.returns-clause-exact
returns-clause-exact c a b =
    (λ e. (shapes_decide a b).0 ((Equal-is (shape_cmp a b)).1 e), λ e. (Equal-is (shape_cmp a b)).0 ((shapes_decide a b).1 e))
