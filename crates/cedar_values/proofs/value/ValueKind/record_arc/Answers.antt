use Rattle.cedar_values.proofs.Levels.{record_kept}
use Rattle.cedar_values.proofs.value.ValueKind.record_arc.Goals as goal

pub returns-clause-well_formed : goal.returns-clause-well_formed
returns-clause-well_formed g c R = record_kept R c.args.pairs
