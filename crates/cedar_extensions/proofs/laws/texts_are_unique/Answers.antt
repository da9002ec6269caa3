use Rattle.cedar_extensions.proofs.DecimalTexts as decimal
use Rattle.cedar_extensions.proofs.DurationTexts as duration
use Rattle.cedar_extensions.proofs.IpTexts as range
use Rattle.cedar_extensions.proofs.MomentTexts as moment
use Rattle.cedar_extensions.proofs.laws.texts_are_unique.Goals as goal

pub returns : goal.returns
returns c = record {
  decimals = decimal.same_number;
  durations = duration.unique;
  ranges = range.unique;
  moments = moment.unique;
}
