-- The members of a set that are entities, as the code tests them.
use Rattle.std.specs.Prelude.{Bool, false, is_some, Option, Some, None}
use Rattle.cedar_terms.specs.Entities.{BareEntityUID}
use Rattle.semantics_values.specs.BareValue.{BareValue}
use Rattle.cedar_evaluator.specs.Kinds.{entity_of}

-- whether there is something that passes a test
abbrev pub holds_of : {A : Type 0} → (A → Bool) → Option A → Bool
holds_of p None = false
holds_of p (Some a) = p a

-- whether a value is an entity
abbrev pub is_entity : {X : Type 0} → BareValue X → Bool
is_entity t = is_some (entity_of t)

-- whether it is an entity that passes a test
abbrev pub is_entity_with : {X : Type 0} → (BareEntityUID → Bool) → BareValue X → Bool
is_entity_with p t = holds_of p (entity_of t)
