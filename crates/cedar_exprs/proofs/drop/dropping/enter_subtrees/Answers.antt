use Rattle.std.proofs.Common.{arith, ap}
use Rattle.cedar_exprs.specs.Steps.{below_nodes}
use Rattle.cedar_exprs.proofs.drop.dropping.enter_subtrees.Goals as goal

pub returns-in-Nothing : goal.returns-in-Nothing
returns-in-Nothing g c = let part = ap below_nodes c.in-Nothing.is in c.go_up.ensures _ _ (omega (arith, part))

pub returns-in-One : goal.returns-in-One
returns-in-One g c = let part = ap below_nodes c.in-One.is in c.go_through.ensures _ _ (omega (arith, part))

pub returns-in-Two : goal.returns-in-Two
returns-in-Two g c = let part = ap below_nodes c.in-Two.is in c.go_two.ensures _ _ (omega (arith, part)) (omega (arith, part))
