use Rattle.std.proofs.Common.{None, arith}
use Rattle.std.proofs.lemmas.Str.Pattern.{strip_suffix_char}
use Rattle.cedar_parser.proofs.leaves.before_quote.Goals as goal

pub returns-in-None : goal.returns-in-None
returns-in-None c front e = absurd (strip_suffix_char 34 c.args.text.now None c.in-None.ensures.cases (omega arith) front e)
