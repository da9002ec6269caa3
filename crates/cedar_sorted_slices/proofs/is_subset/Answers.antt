use Rattle.std.proofs.Common.{◌≤◌, length, arith}
use Rattle.cedar_sorted_slices.proofs.Ends.{no_longer}
use Rattle.cedar_sorted_slices.proofs.is_subset.Goals as goal

pub returns-then-items-others : goal.returns-then-items-others
returns-then-items-others g c s t = (
  λ h. cc,
  λ h. let le : length c.args.items.now ≤ length c.args.others.now = no_longer g.met.T.Ord.total c.args.items.now c.args.others.now s t h in
      absurd (omega arith),
)
