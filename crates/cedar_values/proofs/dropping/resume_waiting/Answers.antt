use Rattle.std.proofs.Common.{arith, ap, ◌∙◌}
use Rattle.cedar_values.specs.Drops.{row_nodes, entry_nodes, waiting_nodes}
use Rattle.cedar_values.specs.Sets.{members}
use Rattle.cedar_values.proofs.Fewer.{set_nodes, record_nodes}
use Rattle.cedar_values.proofs.dropping.resume_waiting.Goals as goal

pub returns-in-Some-Set : goal.returns-in-Some-Set
returns-in-Some-Set g c =
    let waits = ap waiting_nodes c.in-Some-Set.is ∙ set_nodes _ c.in-Some-Set.set c.in-Some-Set.field-0-is in
    let same = ap (λ s. row_nodes (members s)) c.in-Some-Set.set-is in
    let row = ap row_nodes c.into_row.ensures in
    let all = c.resume_members.ensures in
    omega (arith, waits, same, row, all)

pub returns-in-Some-Record : goal.returns-in-Some-Record
returns-in-Some-Record g c =
    let waits = ap waiting_nodes c.in-Some-Record.is ∙ record_nodes _ c.in-Some-Record.pairs c.in-Some-Record.field-0-is in
    let same = ap (λ r. entry_nodes r.value.entries) c.in-Some-Record.pairs-is in
    let all = c.resume_pairs.ensures in
    omega (arith, waits, same, all)
