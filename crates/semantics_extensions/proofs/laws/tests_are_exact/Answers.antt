use Rattle.semantics_extensions.proofs.RangeTests.{in_range, loopback, multicast}
use Rattle.semantics_extensions.proofs.laws.tests_are_exact.Goals as goal

pub returns-clause-loopback : goal.returns-clause-loopback
returns-clause-loopback c = loopback c.ranges_by_bits.ensures

pub returns-clause-multicast : goal.returns-clause-multicast
returns-clause-multicast c = multicast c.ranges_by_bits.ensures

pub returns-clause-in_range : goal.returns-clause-in_range
returns-clause-in_range c = in_range c.ranges_by_bits.ensures
