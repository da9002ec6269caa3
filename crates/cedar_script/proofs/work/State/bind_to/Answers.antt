use Rattle.cedar_script.proofs.Bindings.{is_bound}
use Rattle.cedar_script.specs.Stack.{bindings_of}
use Rattle.cedar_script.proofs.work.State.bind_to.Goals as goal

pub returns-clause-bound : goal.returns-clause-bound
returns-clause-bound c = is_bound c.in_ok-name.name c.args.value (bindings_of c.args.self.now) c.insert.new.self _ c.in_ok-name.ensures.ok c.in_ok-insert.ensures.updates
