use Rattle.std.proofs.Common.{subst}
use Rattle.cedar_sorted_slices.specs.Classes.{PartIsAll}
use Rattle.cedar_values.specs.BareValues.{bare_value}
use Rattle.cedar_evaluator.proofs.MemberTests.{inclusion}
use Rattle.cedar_evaluator.proofs.operators.contains_all.Goals as goal

pub returns-in-Some-Some : goal.returns-in-Some-Some
returns-in-Some-Some g c first second =
    let here = c.in-Some-Some in
    let items =
    subst PartIsAll (λ i a b. c.order_of_values.ensures.order a b i) c.part_is_all.ensures in
    inclusion g.X.Ord.cmp items c.is_subset.result here.set.now
    here.others.now
    (bare_value c.args.left.now)
    (bare_value c.args.right.now) here.ensures.members here.ensures'.members
    (c.is_subset.ensures (here.ensures'.well_formed second)
    (here.ensures.well_formed first))
