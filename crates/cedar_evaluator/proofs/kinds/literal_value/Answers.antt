use Rattle.std.proofs.Common.{ap, ◌∙◌}
use Rattle.cedar_values.specs.WellFormed.{kind_well_formed}
use Rattle.cedar_evaluator.proofs.kinds.literal_value.Goals as goal

pub returns-clause-well_formed : goal.returns-clause-well_formed
returns-clause-well_formed g c =
    let by_kind = c.values_by_kind.ensures in
    by_kind.kept c.new.result ∙ ap (kind_well_formed g.X.Ord.cmp) c.new.ensures.kind
    ∙ by_kind.lit_kept c.args.literal
