use Rattle.std.proofs.Common.{ap, map, ◌∙◌}
use Rattle.semantics_values.specs.BareValue.{SetValue, values_of}
use Rattle.cedar_values.specs.BareValues.{bare_value}
use Rattle.cedar_values.proofs.Levels.{set_kept, set_tree}
use Rattle.cedar_values.proofs.value.ValueKind.empty_set.Goals as goal

pub returns-clause-tree : goal.returns-clause-tree
returns-clause-tree g c = set_tree c.in_ok-set.set ∙ ap (λ vs. SetValue (values_of (map bare_value vs))) c.in_ok-set.ensures.members

pub returns-clause-well_formed : goal.returns-clause-well_formed
returns-clause-well_formed g c = set_kept g.X.Ord.cmp c.in_ok-set.set ∙ c.in_ok-set.ensures.well_formed
