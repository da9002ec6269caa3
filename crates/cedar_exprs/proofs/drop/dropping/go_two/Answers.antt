use Rattle.std.proofs.Common.{arith, ap}
use Rattle.cedar_exprs.specs.Steps.{nodes}
use Rattle.cedar_exprs.proofs.drop.dropping.go_two.Goals as goal

pub returns-in-Some-unless_leaf : goal.returns-in-Some-unless_leaf
returns-in-Some-unless_leaf g c k n less all =
    let first = ap (λ r. nodes r.value) c.in-Some-unless_leaf.ensures in
    let second = ap (λ r. nodes r.value) c.in-Some.ensures in
    let rest = c.rest_of_one.ensures in
    c.go_down.ensures k n (omega (arith, first, less)) (omega (arith, first, second, rest, all))

pub returns-in-None-unless_leaf : goal.returns-in-None-unless_leaf
returns-in-None-unless_leaf g c k n less all =
    let second = ap (λ r. nodes r.value) c.in-Some.ensures in
    c.go_through.ensures k n (omega (arith, second, all))
