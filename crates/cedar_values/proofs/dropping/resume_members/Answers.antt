use Rattle.std.proofs.Common.{arith, ap}
use Rattle.cedar_iterative_drop.specs.Sums.{with_last}
use Rattle.cedar_values.specs.Counts.{kind_nodes}
use Rattle.cedar_values.specs.Drops.{row_nodes}
use Rattle.cedar_values.proofs.Fewer.{row_set}
use Rattle.cedar_values.proofs.dropping.resume_members.Goals as goal

pub returns-in-Some : goal.returns-in-Some
returns-in-Some g c =
    let last = with_last kind_nodes c.last_branch-last.result _ _ c.last_branch-last.ensures.taken c.last_branch-last.ensures.fewer in
    let whole = ap (λ v. row_nodes v.items) c.in-Some.ensures.value in
    let set = row_set c.of_row.result _ c.of_row.ensures in
    omega (arith, last, whole, set, c.resume_row.ensures)

pub returns-in-None : goal.returns-in-None
returns-in-None g c = let set = row_set c.of_row-in-None.result _ c.of_row-in-None.ensures in omega (arith, set, c.remaining_of.ensures)
