use Rattle.std.proofs.Common.{length}
use Rattle.cedar_extensions.proofs.duration.+amounts.Given as goal

abbrev pub decreases-amounts : goal.decreases-amounts
decreases-amounts l = length l.units.now
