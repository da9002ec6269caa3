use Rattle.std.proofs.Common.{◌≡◌}
use Rattle.cedar_names.specs.PlainNames.{bare_name}
use Rattle.cedar_calls.specs.Functions.{bare_name_of}
use Rattle.cedar_calls.specs.NameMaps.{value_at}
use Rattle.cedar_calls.proofs.ByName.{has_its_name, if_found}
use Rattle.cedar_calls.proofs.extension.Extension.get_func.Goals as goal

pub returns-clause-name : goal.returns-clause-name
returns-clause-name g c =
    if_found (λ f. bare_name_of f ≡ bare_name c.args.name.now) c.find.result
    (value_at (bare_name c.args.name.now) c.args.self.now.functions) c.find.ensures
    (λ v found. has_its_name bare_name_of (bare_name c.args.name.now) c.args.self.now.functions.entries v c.args.self.now.by_name found)
