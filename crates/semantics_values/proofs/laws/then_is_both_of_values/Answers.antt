use Rattle.semantics_values.proofs.Plain.{binds_restricted, leaves_alone}
use Rattle.semantics_values.proofs.laws.then_is_both_of_values.Goals as goal

pub returns : goal.returns
returns g c C env1 env2 h = c.then_is_both.ensures env1 env2 (binds_restricted C env1 h) (leaves_alone C env2 env1 h)
