use Rattle.std.proofs.Common.{◌∙◌}
use Rattle.cedar_entities.proofs.Named.{look_up}
use Rattle.cedar_entities.proofs.entity.named.Goals as goal

pub returns : goal.returns
returns g c = c.get.ensures.value ∙ look_up c.args.name.now c.args.values.now.entries
