-- Attributes, as the code looks them up.
use Rattle.std.specs.Prelude.{Option, None, Result, Ok, Err}
use Rattle.cedar_terms.specs.Literals.{EntityLit}
use Rattle.cedar_builders.specs.BareExpr.{Text}
use Rattle.semantics_values.specs.BareValue.{BareValue, LitValue}
use Rattle.semantics_eval.specs.Attributes.{value_at}
use Rattle.semantics_eval.specs.Outcomes.{Fault, Open}
use Rattle.semantics_request.specs.Entities.{Dereference, NotKnown, NoSuchEntity, Data, Entities}
use Rattle.cedar_evaluator.specs.Kinds.{found_in}

module _ {X : Type 0} where
  -- the value of an attribute of an entity, if it has one: an entity that is not there has none
  abbrev pub found_of : Text → Dereference X → Result (Option (BareValue X)) Fault
  found_of k NotKnown = Err Open
  found_of k NoSuchEntity = Ok None
  found_of k (Data d) = Ok (value_at k d.attributes)

  -- the same of any value, where a store answers for entities
  abbrev pub found_by : Entities X → Text → BareValue X → Result (Option (BareValue X)) Fault
  found_by s k (LitValue (EntityLit u)) = found_of k (s u)
  found_by s k t = found_in k t
