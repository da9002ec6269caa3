use Rattle.std.proofs.Common.{refl}
use Rattle.cedar_values.specs.Sets.{members}
use Rattle.cedar_values.proofs.set.Set.into_row.Goals as goal

pub returns : goal.returns
unfolding members
returns g c = refl
