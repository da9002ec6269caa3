use Rattle.std.proofs.Common.{map, sym, ap, ◌∙◌}
use Rattle.std.specs.List.{list_all}
use Rattle.semantics_values.specs.BareValue.{SetValue, values_of}
use Rattle.cedar_values.specs.BareValues.{bare_value, bare_value_kind}
use Rattle.cedar_values.specs.WellFormed.{kind_well_formed, well_formed}
use Rattle.cedar_values.proofs.Levels.{extension_kept, literal_kept, record_kept, set_kept, set_tree}
use Rattle.cedar_values.proofs.WellFormedSets.{same_set}
use Rattle.cedar_values.proofs.value.ValueKind.copied.Goals as goal

pub returns-in_ok-copied-in-Set-clause-tree : goal.returns-in_ok-copied-in-Set-clause-tree
returns-in_ok-copied-in-Set-clause-tree g c =
    set_tree c.in_ok-copied-in-Set.field-0
    ∙ ap (λ vs. SetValue (values_of (map bare_value vs))) c.in_ok-copied-in-Set.ensures.0
    ∙ sym (ap bare_value_kind c.in-Set.is ∙ set_tree c.in-Set.set)

pub returns-in_ok-clone-in-Lit-clause-well_formed : goal.returns-in_ok-clone-in-Lit-clause-well_formed
returns-in_ok-clone-in-Lit-clause-well_formed g c R =
    literal_kept R c.in_ok-clone-in-Lit.field-0 ∙ sym (ap (kind_well_formed R) c.in-Lit.is ∙ literal_kept R c.in-Lit.literal)

pub returns-in_ok-copied-in-Set-clause-well_formed : goal.returns-in_ok-copied-in-Set-clause-well_formed
returns-in_ok-copied-in-Set-clause-well_formed g c R =
    set_kept R c.in_ok-copied-in-Set.field-0 ∙ same_set R c.in_ok-copied-in-Set.field-0 c.in-Set.set c.in_ok-copied-in-Set.ensures.0 c.in_ok-copied-in-Set.ensures.1 ∙ sym (ap (kind_well_formed R) c.in-Set.is ∙ set_kept R c.in-Set.set)

pub returns-in_ok-clone-in-Record-clause-well_formed : goal.returns-in_ok-clone-in-Record-clause-well_formed
returns-in_ok-clone-in-Record-clause-well_formed g c R =
    record_kept R c.in_ok-clone-in-Record.field-0
    ∙ (λ i. list_all (λ e. well_formed R e.1) (c.in_ok-clone-in-Record.ensures.cases i).entries)
    ∙ sym (ap (kind_well_formed R) c.in-Record.is ∙ record_kept R c.in-Record.pairs)

pub returns-in_ok-clone-in-ExtensionValue-clause-well_formed : goal.returns-in_ok-clone-in-ExtensionValue-clause-well_formed
returns-in_ok-clone-in-ExtensionValue-clause-well_formed g c R =
    extension_kept R c.in_ok-clone-in-ExtensionValue.field-0 ∙ sym (ap (kind_well_formed R) c.in-ExtensionValue.is ∙ extension_kept R c.in-ExtensionValue.value)
