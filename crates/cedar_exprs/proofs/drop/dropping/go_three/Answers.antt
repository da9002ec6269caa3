use Rattle.std.proofs.Common.{arith, ap}
use Rattle.cedar_exprs.specs.Steps.{nodes, has_nodes}
use Rattle.cedar_exprs.proofs.drop.dropping.go_three.Goals as goal

pub returns-in-Some-unless_leaf-2 : goal.returns-in-Some-unless_leaf-2
returns-in-Some-unless_leaf-2 g c =
    let first = ap (λ r. nodes r.value) c.in-Some-unless_leaf-2.ensures in
    let second = ap (λ r. nodes r.value) c.in-Some-unless_leaf.ensures in
    let third = ap (λ r. nodes r.value) c.in-Some.ensures in
    let rest = c.rest_of_two.ensures in
    c.go_down.ensures _ _ (omega (arith, first)) (omega (arith, first, second, third, rest))

pub returns-in-None-unless_leaf-2 : goal.returns-in-None-unless_leaf-2
returns-in-None-unless_leaf-2 g c =
    let some = has_nodes c.args.first.value in
    let second = ap (λ r. nodes r.value) c.in-Some-unless_leaf.ensures in
    let third = ap (λ r. nodes r.value) c.in-Some.ensures in
    c.go_two.ensures _ _ (omega (arith, second)) (omega (arith, some, second, third))

pub returns-in-None-unless_leaf : goal.returns-in-None-unless_leaf
returns-in-None-unless_leaf g c =
    let some = has_nodes c.args.second.value in
    let third = ap (λ r. nodes r.value) c.in-Some.ensures in
    c.go_two-in-None-unless_leaf.ensures _ _ (omega arith) (omega (arith, some, third))

pub returns-in-None : goal.returns-in-None
returns-in-None g c = let some = has_nodes c.args.third.value in c.go_two-in-None.ensures _ _ (omega arith) (omega (arith, some))
