use Rattle.std.proofs.Common.{arith, ap}
use Rattle.cedar_values.specs.Drops.{waiting_nodes}
use Rattle.cedar_values.proofs.dropping.resume_row.Goals as goal

pub returns-then-is_only : goal.returns-then-is_only
returns-then-is_only g c = let waits = ap waiting_nodes c.in-Some.is in omega (arith, waits)

pub returns-else-is_only : goal.returns-else-is_only
returns-else-is_only g c = let waits = ap waiting_nodes c.in-Some.is in omega (arith, waits)

pub returns-in-None : goal.returns-in-None
returns-in-None g c = let waits = ap waiting_nodes c.in-None.is in omega (arith, waits, c.remaining_of.ensures)
