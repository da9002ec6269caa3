use Rattle.std.proofs.Common.{Some, sym, ap, ◌∙◌}
use Rattle.std.specs.List.{list_all}
use Rattle.cedar_builders.specs.Keys.{meant_pairs}
use Rattle.cedar_values.specs.BareValues.{bare_value, bare_value_kind}
use Rattle.cedar_values.specs.WellFormed.{kind_well_formed, well_formed}
use Rattle.semantics_eval.specs.Attributes.{list_of_pairs_of}
use Rattle.cedar_evaluator.specs.Kinds.{pairs_in}
use Rattle.cedar_evaluator.proofs.kinds.as_record.Goals as goal

pub returns-in-Record-clause-pairs : goal.returns-in-Record-clause-pairs
returns-in-Record-clause-pairs g c =
    let by_kind = c.values_by_kind.ensures in
    let m = c.in-Record.pairs in
    let is = sym c.value_kind.ensures ∙ c.in-Record.is in
    (λ i. Some (meant_pairs bare_value (c.deref.ensures i).entries))
    ∙ sym (ap pairs_in (by_kind.kind c.args.value.now ∙ ap bare_value_kind is ∙ by_kind.record m)
    ∙ ap Some (list_of_pairs_of (meant_pairs bare_value m.value.entries)))

pub returns-in-Record-clause-well_formed : goal.returns-in-Record-clause-well_formed
returns-in-Record-clause-well_formed g c kept =
    let by_kind = c.values_by_kind.ensures in
    let is = sym c.value_kind.ensures ∙ c.in-Record.is in
    (λ i. list_all (λ e. well_formed g.X.Ord.cmp e.1) (c.deref.ensures i).entries)
    ∙ sym (by_kind.kept c.args.value.now ∙ ap (kind_well_formed g.X.Ord.cmp) is
    ∙ by_kind.record_kept c.in-Record.pairs) ∙ kept
