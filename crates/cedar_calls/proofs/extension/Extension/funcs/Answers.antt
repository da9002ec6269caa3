use Rattle.cedar_calls.specs.Functions.{bare_name_of}
use Rattle.cedar_calls.proofs.ByName.{values_ascend}
use Rattle.cedar_calls.proofs.extension.Extension.funcs.Goals as goal

pub returns-clause-ascending : goal.returns-clause-ascending
returns-clause-ascending g c = values_ascend bare_name_of c.args.self.now.functions.entries c.args.self.now.by_name c.values.ensures.ordered
