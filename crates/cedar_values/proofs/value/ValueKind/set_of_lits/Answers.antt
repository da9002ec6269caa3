use Rattle.std.proofs.Common.{◌∙◌}
use Rattle.cedar_values.proofs.Levels.{set_kept}
use Rattle.cedar_values.proofs.value.ValueKind.set_of_lits.Goals as goal

pub returns-clause-well_formed : goal.returns-clause-well_formed
returns-clause-well_formed g c = set_kept g.X.Ord.cmp c.in_ok-set.set ∙ c.in_ok-set.ensures.well_formed
