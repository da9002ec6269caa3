use Rattle.std.proofs.Common.{◌∙◌}
use Rattle.cedar_names.specs.InternalNames.{bare_internal_name}
use Rattle.cedar_names.proofs.LookUps.{has_name-looked_up}
use Rattle.cedar_names.proofs.all_defs.AllDefs.is_defined_as_common.Goals as goal

pub returns : goal.returns
returns c = c.contains.ensures ∙ has_name-looked_up c.args.self.now.common.keys (bare_internal_name c.args.name.now)
