use Rattle.std.proofs.Common.{subst}
use Rattle.std.specs.List.Sorted.{IsStrictlySortedBy}
use Rattle.cedar_values.specs.Sets.{by_tree}
use Rattle.cedar_evaluator.proofs.Lists.{kept_ascending}
use Rattle.cedar_evaluator.proofs.sets.ascending_of.Goals as goal

pub returns-then-is_ascending : goal.returns-then-is_ascending
returns-then-is_ascending g c =
    let R = by_tree g.X.Ord.cmp in
    let here = c.is_ascending.ensures.ascending.0 c.if-is_ascending.true in
    kept_ascending R c.args.values.items
    (subst (IsStrictlySortedBy R) c.deref.ensures.value
    (subst (λ r. IsStrictlySortedBy r c.deref.result.now)
    (λ i a b. c.order_of_values.ensures.order a b i) here))
