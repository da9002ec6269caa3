use Rattle.std.proofs.Common.{arith, refl, ap}
use Rattle.cedar_iterative_drop.specs.Sums.{with_last}
use Rattle.cedar_values.specs.Counts.{kind_nodes}
use Rattle.cedar_values.specs.Drops.{entry_nodes}
use Rattle.cedar_values.proofs.Fewer.{record_nodes, written_record}
use Rattle.cedar_values.proofs.dropping.resume_pairs.Goals as goal

pub returns-in-Some : goal.returns-in-Some
returns-in-Some g c =
    let last = with_last kind_nodes c.last_branch_value-last.result _ _ c.last_branch_value-last.ensures.taken c.last_branch_value-last.ensures.fewer in
    let whole = ap (λ m. entry_nodes m.entries) c.in-Some.ensures.value in
    let record_of = written_record c.args.row c.last_branch_value-last.new.pairs in
    omega (arith, last, whole, record_of, c.resume_row.ensures)

pub returns-in-None : goal.returns-in-None
returns-in-None g c = let record_of = record_nodes _ c.args.row refl in omega (arith, record_of, c.remaining_of.ensures)
