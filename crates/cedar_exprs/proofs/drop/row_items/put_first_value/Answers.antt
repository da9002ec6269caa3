use Rattle.std.proofs.Common.{sym, ap, ◌∙◌, ◌+◌}
use Rattle.cedar_iterative_drop.specs.FirstItems.{put, value_fits, value_replaced}
use Rattle.cedar_exprs.specs.Steps.{nodes, below_nodes, field_nodes, has_nodes}
use Rattle.cedar_exprs.proofs.drop.row_items.put_first_value.Goals as goal

pub returns-in-Some : goal.returns-in-Some
returns-in-Some g c =
    let entry = c.in-Some.ensures in
    let pairs = c.args.pairs.now.entries in
    let old = c.into_mut.result.now in
    let ends = c.pairs-in-Some-1.given.1 (sym entry.same_map) in
    let first = sym entry.value.0 ∙ c.into_mut.ensures.value in
    let entries = ap (λ m. m.entries) ends ∙ entry.update.1 _ in
    let all = value_replaced nodes pairs _ _ old _ entry.key first entries ∙ ap (λ n. field_nodes pairs + n) c.replace_subtrees.ensures.put in
    put below_nodes _ _ _ (nodes old) c.replace_subtrees.result c.replace_subtrees.ensures.taken (has_nodes old) (value_fits nodes pairs old first) all
