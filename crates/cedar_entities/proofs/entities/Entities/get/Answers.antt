use Rattle.std.proofs.Common.{◌∙◌}
use Rattle.cedar_entities.proofs.Stored.{found_at}
use Rattle.cedar_entities.proofs.entities.Entities.get.Goals as goal

pub returns : goal.returns
returns g c = c.get.ensures ∙ found_at c.args.self.now.store c.args.uid.now
