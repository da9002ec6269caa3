use Rattle.semantics_request.proofs.Decided.{decided_stays}
use Rattle.semantics_request.proofs.laws.decided_stays.Goals as goal

pub returns : goal.returns
returns g c =
    decided_stays g.X.Ord.cmp g.X.PartialEq.eq
    (record { by_children = c.asks_by_children.ensures; ask_nothing = c.values_ask_nothing.ensures })
