-- What is known of a request, of entities and of functions, where no unknown is bound.
use Rattle.std.specs.declared.cmp.Ord as Ord
use Rattle.std.specs.declared.cmp.PartialEq as PartialEq
use Rattle.std.specs.declared.cmp.PartialOrd as PartialOrd
use Rattle.cedar_builders.specs.Environment.{empty}
use Rattle.semantics_request.specs.Entities.{Entities}
use Rattle.semantics_request.specs.Requests.{Functions, Knowledge}
use Rattle.cedar_request.specs.Requests.{bare_request}
use Rattle.cedar_request_evaluator.specs.declared.known.Known.{Known}

-- o, e and p are the comparisons of extension values
module _ {X S T : Type 0} {o : Ord.Ghosts X} {e : PartialEq.Ghosts X} {p : PartialOrd.Ghosts X} where
  -- where `bare_entities` says what a store means
  abbrev pub known_to : (S → Entities X) → Known X S T o e p → Knowledge X
  known_to bare_entities w = record {
    request = bare_request w.request.now;
    entities = bare_entities w.entities.now;
    bindings = empty;
  }

  -- the functions, where `bare_functions` says what a table means
  abbrev pub functions_known_to : (T → Functions X) → Known X S T o e p → Functions X
  functions_known_to bare_functions w = bare_functions w.functions.now
