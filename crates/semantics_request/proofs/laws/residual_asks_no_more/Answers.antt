use Rattle.semantics_request.proofs.NoMore.{asks_no_more}
use Rattle.semantics_request.proofs.laws.residual_asks_no_more.Goals as goal

pub returns : goal.returns
returns g c =
    asks_no_more
    (record { value_kept = c.value_kept.ensures; ascending_lists = c.ascending_lists.ensures })
    (record { by_children = c.asks_by_children.ensures; ask_nothing = c.values_ask_nothing.ensures })
