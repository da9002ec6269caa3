use Rattle.cedar_extensions.specs.IpAddrs.{IsIpAddrText}
use Rattle.semantics_extensions.specs.Readings.{ip_addr_in}
use Rattle.cedar_functions.specs.declared.extension.BuiltinExtension.TheVariants as of
use Rattle.cedar_functions.proofs.Read.{refused}
use Rattle.cedar_functions.proofs.texts.read_ip.Goals as goal

pub returns-in-Err : goal.returns-in-Err
returns-in-Err c = refused of.IpAddr (ip_addr_in c.args.text.now) (IsIpAddrText c.args.text.now) (c.readings_are_exact.ensures.ranges c.args.text.now) c.in-Err.ensures.value
