use Rattle.cedar_values.proofs.Uids.{Owes, kind_uids, uids_in}
use Rattle.cedar_values.proofs.WaitingValues.{nodes_in}
use Rattle.cedar_values.proofs.value.ValueKind.all_literal_uids.Given as goal

-- with those of what waits, all are there
abbrev pub invariant-walk : goal.invariant-walk
invariant-walk g l = Owes (kind_uids l.self) (uids_in l.waiting.items) l.uids

abbrev pub decreases-walk : goal.decreases-walk
decreases-walk g l = nodes_in l.waiting.items
