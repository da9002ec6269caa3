use Rattle.std.proofs.Common.{◌∙◌}
use Rattle.cedar_values.proofs.Entries.{inserted_last}
use Rattle.cedar_values.proofs.put_last.put_last.Goals as goal

pub returns : goal.returns
returns g c h = c.in_ok-insert.ensures.entries ∙ inserted_last c.args.map.now.entries c.args.key c.args.value h
