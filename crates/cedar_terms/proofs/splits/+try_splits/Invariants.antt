use Rattle.std.proofs.Common.{length, ◌+◌}
use Rattle.std.specs.Str.{chars}
use Rattle.cedar_terms.proofs.splits.+try_splits.Given as goal

abbrev pub decreases-try_splits : goal.decreases-try_splits
decreases-try_splits l = length l.pattern.now + length (chars l.text.now)
