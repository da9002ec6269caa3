use Rattle.semantics_request.proofs.Residuals.{residual_first}
use Rattle.semantics_request.proofs.laws.residual_first.Goals as goal

pub returns : goal.returns
returns g c =
    residual_first
    (record { value_kept = c.value_kept.ensures; ascending_lists = c.ascending_lists.ensures })
    (record { by_children = c.asks_by_children.ensures; ask_nothing = c.values_ask_nothing.ensures })
