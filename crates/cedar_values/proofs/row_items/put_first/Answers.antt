use Rattle.std.proofs.Common.{◌<◌, ◌+◌, length, refl, ap, ◌∙◌, subst}
use Rattle.cedar_iterative_drop.specs.FirstItems.{put, first_fits, first_replaced}
use Rattle.cedar_values.specs.BareValues.{bare_value}
use Rattle.cedar_values.specs.Counts.{kind_nodes, has_nodes}
use Rattle.cedar_values.specs.Drops.{value_nodes, row_nodes}
use Rattle.cedar_values.proofs.row_items.put_first.Goals as goal

pub returns-in-Some : goal.returns-in-Some
returns-in-Some g c =
    let first = c.in-Some.ensures in
    let items = c.args.members.now.items in
    let old = c.in-Some.first.now in
    let some : 0 < length items = subst (λ n. 0 < n) c.args.members.now.ok.0 (first.variant.0 refl) in
    let all = first_replaced value_nodes items old _ some first.value ∙ ap (λ n. row_nodes items + n) c.replace_branch.ensures.put in
    put kind_nodes _ _ _ (value_nodes old) c.replace_branch.result c.replace_branch.ensures.taken (has_nodes (bare_value old)) (first_fits value_nodes items old some first.value) all
