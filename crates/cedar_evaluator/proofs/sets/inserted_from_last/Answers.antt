use Rattle.std.proofs.Common.{[], ◌∷◌, ◌++◌, sym, ap, ◌∙◌}
use Rattle.std.specs.BTreeSet.{insert_key}
use Rattle.std.specs.Option.{option_to_list}
use Rattle.cedar_values.specs.Sets.{by_tree}
use Rattle.cedar_evaluator.proofs.Lists.{all_inserted, inserted_from_last, last_first}
use Rattle.cedar_evaluator.proofs.sets.inserted_from_last.Goals as goal

pub loop-value-init : goal.loop-value-init
loop-value-init g c =
    let R = by_tree g.X.Ord.cmp in
    sym (all_inserted R c.args.values.items)
    ∙ ap (inserted_from_last R c.args.values.items) (sym c.new-members.ensures.empty)

pub loop-value-preserved : goal.loop-value-preserved
loop-value-preserved g c =
    let R = by_tree g.X.Ord.cmp in
    let ks = c.loop-value.members.keys in
    let left = c.pop.new.self.items in
    let v = c.in-Some.value in
    c.loop-value.invariant
    ∙ ap (λ xs. inserted_from_last R xs ks)
    (c.pop.ensures.items ∙ ap (λ o. left ++ option_to_list o) c.in-Some.is)
    ∙ last_first R left v ks
    ∙ ap (inserted_from_last R left)
    (sym (c.in_ok-insert.ensures.keys
    ∙ ap (λ r. insert_key r ks v) (λ i a b. c.order_of_values.ensures.order a b i)))
