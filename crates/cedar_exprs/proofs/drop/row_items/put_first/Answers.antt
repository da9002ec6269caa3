use Rattle.std.proofs.Common.{◌<◌, ◌+◌, length, refl, ap, ◌∙◌, subst}
use Rattle.cedar_iterative_drop.specs.FirstItems.{put, first_fits, first_replaced}
use Rattle.cedar_exprs.specs.Steps.{nodes, below_nodes, item_nodes, has_nodes}
use Rattle.cedar_exprs.proofs.drop.row_items.put_first.Goals as goal

pub returns-in-Some : goal.returns-in-Some
returns-in-Some g c =
    let first = c.in-Some.ensures in
    let items = c.args.items.now.items in
    let old = c.in-Some.first.now in
    let some : 0 < length items = subst (λ n. 0 < n) c.args.items.now.ok.0 (first.variant.0 refl) in
    let all = first_replaced nodes items old _ some first.value ∙ ap (λ n. item_nodes items + n) c.replace_subtrees.ensures.put in
    put below_nodes _ _ _ (nodes old) c.replace_subtrees.result c.replace_subtrees.ensures.taken (has_nodes old) (first_fits nodes items old some first.value) all
