use Rattle.std.proofs.Common.{ap, ◌∙◌}
use Rattle.std.specs.List.{list_all}
use Rattle.cedar_values.specs.BareValues.{bare_value_kind}
use Rattle.cedar_values.specs.Sets.{by_tree}
use Rattle.cedar_values.specs.WellFormed.{kind_well_formed, well_formed}
use Rattle.cedar_evaluator.proofs.Lists.{kept_list}
use Rattle.cedar_evaluator.proofs.SetsMade.{set_made_of_list}
use Rattle.cedar_evaluator.proofs.sets.set_of.Goals as goal

pub returns-clause-tree : goal.returns-clause-tree
returns-clause-tree g c =
    let by_kind = c.values_by_kind.ensures in
    let s = c.in_ok-set.set in
    set_made_of_list g.X.Ord.cmp c.values_are_ordered.ensures.total c.ascending_lists.ensures
    c.new-2.result s c.args.values.items c.in_ok-ascending_of.field-0.items
    (by_kind.kind c.new-2.result ∙ ap bare_value_kind c.new-2.ensures.kind ∙ by_kind.set s)
    c.in_ok-ascending_of.ensures
    c.in_ok-set.ensures.classes

pub returns-clause-well_formed : goal.returns-clause-well_formed
returns-clause-well_formed g c all =
    let R = g.X.Ord.cmp in
    let by_kind = c.values_by_kind.ensures in
    by_kind.kept c.new-2.result ∙ ap (kind_well_formed R) c.new-2.ensures.kind
    ∙ by_kind.set_kept c.in_ok-set.set ∙ c.in_ok-set.ensures.well_formed
    (ap (list_all (well_formed R)) c.in_ok-ascending_of.ensures
    ∙ kept_list (by_tree R) (well_formed R) c.args.values.items all)
