use Rattle.semantics_request.proofs.Refused.{never_refused}
use Rattle.semantics_request.proofs.laws.never_refused.Goals as goal

pub returns : goal.returns
returns g c =
    never_refused g.X.Ord.cmp g.X.PartialEq.eq
    (record { by_children = c.asks_by_children.ensures; ask_nothing = c.values_ask_nothing.ensures })
