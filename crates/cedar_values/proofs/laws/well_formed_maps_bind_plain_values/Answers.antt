use Rattle.cedar_values.proofs.WellFormedMaps.{binds_plain}
use Rattle.cedar_values.proofs.laws.well_formed_maps_bind_plain_values.Goals as goal

pub returns : goal.returns
returns c R E P = binds_plain c.no_extension_values.ensures.plain
