use Rattle.cedar_values.specs.Sets.{IsSetCopy}
use Rattle.cedar_values.proofs.Making.{copy_of_one}
use Rattle.cedar_values.proofs.set.SetClone.clone.Goals as goal

pub returns : goal.returns
returns g c = record { cases = copy_of_one (IsSetCopy c.args.self.now) c.copied.result c.copied.ensures }
