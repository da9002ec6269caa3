use Rattle.std.proofs.Common.{◌∙◌}
use Rattle.cedar_values.proofs.Levels.{literal_kept}
use Rattle.cedar_values.proofs.from_expr.literal_at.Goals as goal

pub returns-clause-well_formed : goal.returns-clause-well_formed
returns-clause-well_formed g c =
    c.new.ensures.well_formed g.X.Ord.cmp ∙ literal_kept g.X.Ord.cmp c.in_ok-clone.field-0
