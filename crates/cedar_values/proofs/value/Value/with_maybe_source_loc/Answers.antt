use Rattle.std.proofs.Common.{sym, ◌∙◌}
use Rattle.cedar_values.specs.BareValues.{kind_of}
use Rattle.cedar_values.proofs.Levels.{placed_kept, value_kept}
use Rattle.cedar_values.proofs.value.Value.with_maybe_source_loc.Goals as goal

pub returns-clause-well_formed : goal.returns-clause-well_formed
returns-clause-well_formed g c R =
    placed_kept R (kind_of c.args.self) c.args.loc ∙ sym (value_kept R c.args.self)
