use Rattle.cedar_values.proofs.Levels.{placed_kept}
use Rattle.cedar_values.proofs.value.Value.new.Goals as goal

pub returns-clause-well_formed : goal.returns-clause-well_formed
returns-clause-well_formed g c R = placed_kept R c.args.kind c.args.loc
