use Rattle.std.proofs.Common.{◌∙◌}
use Rattle.cedar_calls.proofs.LastOfEach.{found}
use Rattle.cedar_calls.proofs.extension.find.Goals as goal

pub returns : goal.returns
returns g c = c.get.ensures.value ∙ found c.args.map.now c.args.name.now
