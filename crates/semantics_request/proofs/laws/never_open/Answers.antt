use Rattle.semantics_request.proofs.Closed.{never_open}
use Rattle.semantics_request.proofs.laws.never_open.Goals as goal

pub returns : goal.returns
returns g c =
    never_open g.X.Ord.cmp g.X.PartialEq.eq
    (record { by_children = c.asks_by_children.ensures; ask_nothing = c.values_ask_nothing.ensures })
