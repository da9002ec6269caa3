use Rattle.cedar_sorted_slices.proofs.Items.{part_by_items}
use Rattle.cedar_sorted_slices.proofs.laws.part_is_all.Goals as goal

pub returns : goal.returns
returns g c = part_by_items g.met.T.Ord.total
