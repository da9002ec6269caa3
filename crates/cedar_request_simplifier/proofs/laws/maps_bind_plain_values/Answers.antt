use Rattle.cedar_values.specs.Holders.{held_call}
use Rattle.cedar_values.specs.WellFormedValues.{well_formed_env}
use Rattle.cedar_request_simplifier.proofs.Lifted.{lifted_values}
use Rattle.cedar_request_simplifier.proofs.laws.maps_bind_plain_values.Goals as goal

pub returns : goal.returns
returns g c R E P m =
    lifted_values g.X.ExtensionValue.canonical held_call (well_formed_env m)
    (c.well_formed_maps_bind_plain_values.ensures R E P m)
