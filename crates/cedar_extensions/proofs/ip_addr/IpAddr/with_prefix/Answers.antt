use Rattle.std.proofs.Common.{refl, arith}
use Rattle.cedar_extensions.proofs.ip_addr.IpAddr.with_prefix.Goals as goal

pub returns-in-None : goal.returns-in-None
returns-in-None c = (refl, λ n h. c.in-None.ensures n (omega (arith, h.1, c.width.ensures.exact)) h.0)
