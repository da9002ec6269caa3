use Rattle.std.proofs.Common.{subst}
use Rattle.cedar_extensions.specs.Datetimes.{Reads}
use Rattle.cedar_extensions.proofs.datetime.DatetimeFromStr.from_str.Goals as goal

pub returns : goal.returns
returns c = subst (λ x. Reads x c.read.result) c.as_bytes.ensures.value c.read.ensures
