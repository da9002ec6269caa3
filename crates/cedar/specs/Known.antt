-- What is known of a request, of entities and of names.
use Rattle.semantics_request.specs.Requests.{Knowledge}
use Rattle.cedar_request.specs.Requests.{bare_request}
use Rattle.cedar_request.specs.Values.{tree_of}
use Rattle.cedar_entities.specs.Stores.{bare_entities}
use Rattle.cedar_functions.specs.declared.extension.BuiltinExtension.{BuiltinExtension}
use Rattle.cedar_bindings.specs.Bindings.{env_in}
use Rattle.cedar.specs.declared.known.Known.{Known}

-- all that the definitions need
abbrev pub all_known : Known → Knowledge BuiltinExtension
all_known k = record {
  request = bare_request k.request;
  entities = bare_entities tree_of k.entities;
  bindings = env_in k.bindings;
}
