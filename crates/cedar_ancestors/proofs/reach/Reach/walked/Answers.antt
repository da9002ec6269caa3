use Rattle.cedar_ancestors.specs.Tables.{IsAbove}
use Rattle.cedar_ancestors.proofs.Keys.{above_inside}
use Rattle.cedar_ancestors.proofs.reach.Reach.walked.Goals as goal

pub returns-in-Some-clause-refusal : goal.returns-in-Some-clause-refusal
returns-in-Some-clause-refusal c =
    let table = c.args.table.items in
    let index = c.in-Some.index in
    let above : IsAbove table index index = rw (c.in-Some.is, c.deref.ensures.value) at c.in_ok-index.ensures in
    (above_inside table index index above, above)
