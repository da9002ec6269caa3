use Rattle.cedar_extensions.specs.Decimals.{decimal_text}
use Rattle.cedar_extensions.specs.Durations.{duration_text}
use Rattle.cedar_extensions.specs.IpAddrs.{ip_addr_text}
use Rattle.semantics_extensions.proofs.MomentReads.{epoch}
use Rattle.semantics_extensions.proofs.Written.{decimal_stands, duration_stands, ip_addr_stands}
use Rattle.semantics_extensions.proofs.laws.written_texts_are_read.Goals as goal

pub returns-clause-decimals : goal.returns-clause-decimals
returns-clause-decimals c d h = (c.readings_are_exact.ensures.decimals (decimal_text d.ten_thousandths) d).1 (decimal_stands d.ten_thousandths h, h)

pub returns-clause-durations : goal.returns-clause-durations
returns-clause-durations c d h = (c.readings_are_exact.ensures.durations (duration_text d.milliseconds) d).1 (duration_stands d.milliseconds h, h)

pub returns-clause-ranges : goal.returns-clause-ranges
returns-clause-ranges c r h = (c.readings_are_exact.ensures.ranges (ip_addr_text r) r).1 (ip_addr_stands r h)

pub returns-clause-epoch : goal.returns-clause-epoch
returns-clause-epoch c = epoch
