use Rattle.semantics_extensions.proofs.DecimalReads.{decimal_exact}
use Rattle.semantics_extensions.proofs.DurationReads.{duration_exact}
use Rattle.semantics_extensions.proofs.IpReads.{ip_addr_exact}
use Rattle.semantics_extensions.proofs.MomentReads.{datetime_exact}
use Rattle.semantics_extensions.proofs.laws.readings_are_exact.Goals as goal

pub returns-clause-decimals : goal.returns-clause-decimals
returns-clause-decimals c = decimal_exact c.texts_are_unique.ensures.decimals

pub returns-clause-durations : goal.returns-clause-durations
returns-clause-durations c = duration_exact c.texts_are_unique.ensures.durations

pub returns-clause-ranges : goal.returns-clause-ranges
returns-clause-ranges c = ip_addr_exact c.texts_are_unique.ensures.ranges

pub returns-clause-moments : goal.returns-clause-moments
returns-clause-moments c = datetime_exact
