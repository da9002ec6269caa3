use Rattle.cedar_values.specs.ValueMaps.{values_env}
use Rattle.cedar_values.proofs.PlainMaps.{binds_plain}
use Rattle.cedar_values.proofs.laws.then_is_both_of_maps.Goals as goal

pub returns : goal.returns
returns g c first second plain =
    let N = g.X.ExtensionValue.type_name in
    let C = g.X.ExtensionValue.canonical in
    c.then_is_both_of_values.ensures C (values_env N C first) (values_env N C second) (binds_plain N C first plain)
