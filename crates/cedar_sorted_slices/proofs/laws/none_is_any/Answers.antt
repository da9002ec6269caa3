use Rattle.cedar_sorted_slices.proofs.Items.{none_by_items}
use Rattle.cedar_sorted_slices.proofs.laws.none_is_any.Goals as goal

pub returns : goal.returns
returns g c = none_by_items g.met.T.Ord.total
