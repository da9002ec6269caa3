use Rattle.std.proofs.Common.{arith}
use Rattle.cedar_extensions.proofs.IpTexts.{no_address, read_with_prefix}
use Rattle.cedar_extensions.proofs.ip_addr.IpAddrFromStr.from_str.Goals as goal

pub returns-in-Some : goal.returns-in-Some
returns-in-Some c = read_with_prefix c.args.text.now c.split_slash.result.0.now c.in-Some.back.now c.in-Ok.address c.with_prefix.result (rw c.in-Some.is at c.split_slash.ensures) c.in-Ok.ensures c.with_prefix.ensures

pub returns-in-Err : goal.returns-in-Err
returns-in-Err c = no_address c.args.text.now c.split_slash.result.0.now _ c.in-Err.error c.split_slash.ensures c.in-Err.ensures
