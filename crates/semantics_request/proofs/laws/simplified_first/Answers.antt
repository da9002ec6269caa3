use Rattle.semantics_request.proofs.Residuals.{simplified_first}
use Rattle.semantics_request.proofs.laws.simplified_first.Goals as goal

pub returns : goal.returns
returns g c =
    simplified_first
    (record { value_kept = c.value_kept.ensures; ascending_lists = c.ascending_lists.ensures })
    (record { by_children = c.asks_by_children.ensures; ask_nothing = c.values_ask_nothing.ensures })
