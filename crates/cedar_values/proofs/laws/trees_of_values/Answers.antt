use Rattle.std.proofs.Common.{map, ap, ◌∙◌}
use Rattle.semantics_values.specs.BareValue.{list_of, list_of_values}
use Rattle.cedar_values.specs.BareValues.{bare_value}
use Rattle.cedar_values.specs.Sets.{members}
use Rattle.cedar_values.proofs.Levels.{extension_tree, kind_of_literal, set_row}
use Rattle.cedar_values.proofs.WellFormedSets.{set_values}
use Rattle.cedar_values.proofs.laws.trees_of_values.Goals as goal

pub returns-clause-members : goal.returns-clause-members
returns-clause-members g c s = ap list_of (set_values s) ∙ list_of_values (map bare_value (members s))

pub returns-clause-set : goal.returns-clause-set
returns-clause-set g c = set_row

pub returns-clause-literal : goal.returns-clause-literal
returns-clause-literal g c = kind_of_literal

pub returns-clause-extension : goal.returns-clause-extension
returns-clause-extension g c = extension_tree
