use Rattle.std.proofs.Common.{ap, ◌∙◌}
use Rattle.std.specs.List.{list_all}
use Rattle.cedar_values.specs.WellFormed.{well_formed}
use Rattle.cedar_values.proofs.Levels.{record_kept}
use Rattle.cedar_values.proofs.value.ValueKind.empty_record.Goals as goal

pub returns-clause-well_formed : goal.returns-clause-well_formed
returns-clause-well_formed g c =
    let R = g.X.Ord.cmp in
    record_kept R c.in_ok-map.map
    ∙ (λ i. list_all (λ e. well_formed R e.1) (c.in_ok-map.ensures.ok i).entries)
    ∙ ap (list_all (λ e. well_formed R e.1)) c.new.ensures.empty
