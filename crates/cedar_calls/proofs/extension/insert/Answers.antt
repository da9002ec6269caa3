use Rattle.std.proofs.Common.{rules}
use Rattle.cedar_calls.proofs.LastOfEach.{updated}
use Rattle.cedar_calls.proofs.extension.insert.Goals as goal

pub returns-clause-values : goal.returns-clause-values
returns-clause-values g c name = updated c.args.map.now c.insert.new.self c.args.key name c.args.value (search rules)
