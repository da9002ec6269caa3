use Rattle.std.proofs.Common.{subst}
use Rattle.cedar_sorted_slices.specs.Classes.{NoneIsAny}
use Rattle.cedar_values.specs.BareValues.{bare_value}
use Rattle.cedar_evaluator.proofs.MemberTests.{meeting}
use Rattle.cedar_evaluator.proofs.operators.contains_any.Goals as goal

pub returns-in-Some-Some : goal.returns-in-Some-Some
returns-in-Some-Some g c first second =
    let here = c.in-Some-Some in
    let items =
    subst NoneIsAny (λ i a b. c.order_of_values.ensures.order a b i) c.none_is_any.ensures in
    meeting g.X.Ord.cmp items c.is_disjoint.result here.set.now
    here.others.now
    (bare_value c.args.left.now)
    (bare_value c.args.right.now) here.ensures.members here.ensures'.members
    (c.is_disjoint.ensures (here.ensures'.well_formed second)
    (here.ensures.well_formed first))
