-- Requests (Cedar's `Request`), the functions that conditions may call, and what is known when a
-- condition is evaluated.
use Rattle.std.specs.Prelude.{List, Option, None, Result, option_map}
use Rattle.std.specs.declared.cmp.Ordering.{Ordering}
use Rattle.cedar_names.specs.Names.{BareName}
use Rattle.cedar_terms.specs.Entities.{BareEntityUID}
use Rattle.cedar_terms.specs.Literals.{EntityLit}
use Rattle.cedar_terms.specs.declared.var.Var.{Var as Variable}
use Rattle.cedar_builders.specs.Environment.{Env}
use Rattle.semantics_values.specs.BareValue.{BareValue, LitValue, RecordValue, BarePairs}
use Rattle.semantics_eval.specs.Outcomes.{Mistake}
use Rattle.semantics_request.specs.Entities.{Entities}

-- a request: who asks to do what with which resource, and a context record; each may be not known
-- yet
pub record Request (X : Type 0) : Type 0 where
  pub principal : Option BareEntityUID
  pub action : Option BareEntityUID
  pub resource : Option BareEntityUID
  pub context : Option (BarePairs X)

-- an entity as a value
abbrev pub entity : {X : Type 0} → BareEntityUID → BareValue X
entity u = LitValue (EntityLit u)

-- the value of a variable, if it is known
abbrev pub value_of : {X : Type 0} → Request X → Variable → Option (BareValue X)
value_of q Variable.Principal = option_map entity q.principal
value_of q Variable.Action = option_map entity q.action
value_of q Variable.Resource = option_map entity q.resource
value_of q Variable.Context = option_map RecordValue q.context

-- a request of which nothing is known
abbrev pub no_request : {X : Type 0} → Request X
no_request = record { principal = None; action = None; resource = None; context = None }

-- a table of extension functions: what each makes of its arguments, or which mistake it answers;
-- and how `<` and `<=` compare two extension values, if they may
pub record Functions (X : Type 0) : Type 0 where
  pub call : BareName → Option (List (BareValue X) → Result (BareValue X) Mistake)
  pub compare : X → X → Option Ordering

-- what is known: of the request, of the entities, and of the unknowns
pub record Knowledge (X : Type 0) : Type 0 where
  pub request : Request X
  pub entities : Entities X
  pub bindings : Env
