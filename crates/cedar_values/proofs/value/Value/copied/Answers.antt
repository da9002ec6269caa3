use Rattle.std.proofs.Common.{sym, ap, ◌∙◌}
use Rattle.cedar_values.specs.WellFormed.{kind_well_formed}
use Rattle.cedar_values.proofs.Levels.{value_kept}
use Rattle.cedar_values.proofs.value.Value.copied.Goals as goal

pub returns-clause-well_formed : goal.returns-clause-well_formed
returns-clause-well_formed g c R =
    value_kept R c.new.result ∙ ap (kind_well_formed R) c.new.ensures.kind
    ∙ c.in_ok-kind.ensures.well_formed R
    ∙ sym (value_kept R c.args.self.now)
