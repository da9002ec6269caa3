use Rattle.std.proofs.Common.{nat_eq, refl, arith}
use Rattle.cedar_extensions.proofs.Prefixes.{not_within, within_by_bits}
use Rattle.cedar_extensions.proofs.ip_addr.is_within.Goals as goal

pub returns-then-prefix-other_prefix : goal.returns-then-prefix-other_prefix
returns-then-prefix-other_prefix c = not_within c.args.width c.args.address c.args.prefix c.args.other c.args.other_prefix c.requires.prefix c.requires.other_prefix (omega arith) c.requires.address

pub returns : goal.returns
returns c = within_by_bits c.args.width c.args.address c.args.prefix c.args.other c.args.other_prefix c.first_bits.result c.first_bits-2.result (nat_eq c.first_bits.result c.first_bits-2.result) c.requires.prefix (omega arith) c.requires.address c.first_bits.ensures c.first_bits-2.ensures refl
