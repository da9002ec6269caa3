use Rattle.std.proofs.Common.{◌∙◌}
use Rattle.cedar_sorted_slices.proofs.Halving.{found}
use Rattle.cedar_sorted_slices.proofs.contains.Goals as goal

pub returns : goal.returns
returns g c s = c.is_ok.ensures.value ∙ found g.met.T.Ord.total c.args.items.now c.args.key.now c.binary_search.result s c.binary_search.ensures.bound c.binary_search.ensures.position
