use Rattle.cedar_values.specs.BareValues.{bare_value}
use Rattle.cedar_evaluator.proofs.MemberTests.{membership}
use Rattle.cedar_evaluator.proofs.operators.contains.Goals as goal

pub returns-in-Some : goal.returns-in-Some
returns-in-Some g c kept =
    membership g.X.Ord.cmp c.contains.result c.in-Some.set.now c.args.right.now
    (bare_value c.args.left.now)
    c.in-Some.ensures.members (c.contains.ensures (c.in-Some.ensures.well_formed kept))
