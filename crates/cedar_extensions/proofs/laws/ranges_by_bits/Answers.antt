use Rattle.cedar_extensions.proofs.Prefixes.{by_bits}
use Rattle.cedar_extensions.proofs.laws.ranges_by_bits.Goals as goal

pub returns : goal.returns
returns c = by_bits
