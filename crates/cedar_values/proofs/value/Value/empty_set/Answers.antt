use Rattle.cedar_values.proofs.Levels.{kept_by_kind}
use Rattle.cedar_values.proofs.value.Value.empty_set.Goals as goal

pub returns-clause-well_formed : goal.returns-clause-well_formed
returns-clause-well_formed g c = kept_by_kind g.X.Ord.cmp c.new.result c.in_ok-kind.kind c.new.ensures.kind c.in_ok-kind.ensures.well_formed
