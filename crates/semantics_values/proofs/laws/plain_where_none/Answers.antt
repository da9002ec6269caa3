use Rattle.semantics_values.proofs.NoneInside.{plain}
use Rattle.semantics_values.proofs.laws.plain_where_none.Goals as goal

pub returns : goal.returns
returns g c = plain
