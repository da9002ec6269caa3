use Rattle.std.proofs.Common.{Some, map, sym, ap, ◌∙◌}
use Rattle.semantics_values.specs.BareValue.{list_of_values}
use Rattle.cedar_values.specs.BareValues.{bare_value, bare_value_kind}
use Rattle.cedar_values.specs.Sets.{members}
use Rattle.cedar_values.specs.WellFormed.{kind_well_formed}
use Rattle.cedar_evaluator.specs.Kinds.{members_of}
use Rattle.cedar_evaluator.proofs.kinds.as_set.Goals as goal

pub returns-in-Set-clause-members : goal.returns-in-Set-clause-members
returns-in-Set-clause-members g c =
    let by_kind = c.values_by_kind.ensures in
    let is = sym c.value_kind.ensures ∙ c.in-Set.is in
    sym (ap members_of
    (by_kind.kind c.args.value.now ∙ ap bare_value_kind is ∙ by_kind.set c.in-Set.set)
    ∙ ap Some (list_of_values (map bare_value (members c.in-Set.set))))

pub returns-in-Set-clause-well_formed : goal.returns-in-Set-clause-well_formed
returns-in-Set-clause-well_formed g c kept =
    let by_kind = c.values_by_kind.ensures in
    let is = sym c.value_kind.ensures ∙ c.in-Set.is in
    sym (by_kind.kept c.args.value.now ∙ ap (kind_well_formed g.X.Ord.cmp) is
    ∙ by_kind.set_kept c.in-Set.set) ∙ kept
