-- What an evaluator knows.
use Rattle.std.specs.declared.cmp.Ord as Ord
use Rattle.std.specs.declared.cmp.PartialEq as PartialEq
use Rattle.std.specs.declared.cmp.PartialOrd as PartialOrd
use Rattle.cedar_values.specs.WellFormedValues.{well_formed_env}
use Rattle.semantics_request.specs.Entities.{Entities}
use Rattle.semantics_request.specs.Requests.{Functions, Knowledge}
use Rattle.cedar_request_evaluator.specs.Known.{functions_known_to, known_to}
use Rattle.cedar_request_evaluator.specs.declared.evaluator.RequestEvaluator.{RequestEvaluator}

-- o, e and p are the comparisons of extension values
module _ {X S T : Type 0} {o : Ord.Ghosts X} {e : PartialEq.Ghosts X} {p : PartialOrd.Ghosts X} where
  -- of the request, of the entities and of the unknowns, where `bare_entities` says what a store
  -- means
  abbrev pub knowledge_of :
      (S → Entities X) → RequestEvaluator X S T o e p → Knowledge X
  knowledge_of bare_entities w =
      record (known_to bare_entities w.known) { bindings = well_formed_env w.values.now }

  -- the functions, where `bare_functions` says what a table means
  abbrev pub functions_of : (T → Functions X) → RequestEvaluator X S T o e p → Functions X
  functions_of bare_functions w = functions_known_to bare_functions w.known
