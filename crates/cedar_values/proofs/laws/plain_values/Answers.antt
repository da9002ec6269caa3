use Rattle.std.proofs.Common.{ap, ◌∙◌}
use Rattle.semantics_values.specs.ValueExpr.{has_extension}
use Rattle.cedar_values.specs.Sets.{members}
use Rattle.cedar_values.proofs.Levels.{extension_tree, kind_of_literal, record_tree, set_tree}
use Rattle.cedar_values.proofs.PlainParts.{any_member, any_pair}
use Rattle.cedar_values.proofs.laws.plain_values.Goals as goal

pub returns-clause-literals : goal.returns-clause-literals
returns-clause-literals g c l = ap has_extension (kind_of_literal l)

pub returns-clause-sets : goal.returns-clause-sets
returns-clause-sets g c s = ap has_extension (set_tree s) ∙ any_member (members s)

pub returns-clause-records : goal.returns-clause-records
returns-clause-records g c m = ap has_extension (record_tree m) ∙ any_pair m.value.entries

pub returns-clause-extensions : goal.returns-clause-extensions
returns-clause-extensions g c e = ap has_extension (extension_tree e)
