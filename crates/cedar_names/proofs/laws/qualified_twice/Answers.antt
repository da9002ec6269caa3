use Rattle.cedar_names.proofs.Qualified.{stays, twice}
use Rattle.cedar_names.proofs.laws.qualified_twice.Goals as goal

pub returns : goal.returns
returns c = record { stays = stays; twice = twice }
