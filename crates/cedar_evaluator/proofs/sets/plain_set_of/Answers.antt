use Rattle.std.proofs.Common.{ap, ◌∙◌}
use Rattle.cedar_values.specs.BareValues.{bare_value_kind}
use Rattle.cedar_values.specs.WellFormed.{kind_well_formed}
use Rattle.cedar_evaluator.proofs.SetsMade.{set_made}
use Rattle.cedar_evaluator.proofs.sets.plain_set_of.Goals as goal

pub returns-clause-tree : goal.returns-clause-tree
returns-clause-tree c =
    let by_kind = c.values_by_kind.ensures in
    let s = c.in_ok-set.set in
    set_made _ c.values_are_ordered.ensures.total c.one_list.ensures
    c.no_extension_values.ensures.plain
    c.new-2.result s c.args.values.items
    (by_kind.kind c.new-2.result ∙ ap bare_value_kind c.new-2.ensures.kind ∙ by_kind.set s)
    c.in_ok-set.ensures.classes

pub returns-clause-well_formed : goal.returns-clause-well_formed
returns-clause-well_formed c all =
    let by_kind = c.values_by_kind.ensures in
    by_kind.kept c.new-2.result ∙ ap (kind_well_formed _) c.new-2.ensures.kind
    ∙ by_kind.set_kept c.in_ok-set.set ∙ c.in_ok-set.ensures.well_formed all
