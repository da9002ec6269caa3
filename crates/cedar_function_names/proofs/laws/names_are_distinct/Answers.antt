use Rattle.cedar_function_names.proofs.Named.{named}
use Rattle.cedar_function_names.proofs.laws.names_are_distinct.Goals as goal

pub returns : goal.returns
returns c = named
