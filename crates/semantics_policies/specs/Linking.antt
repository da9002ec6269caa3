-- Templates, and their slots filled (Cedar's `Template::link` in its file `policy.rs`).
use Rattle.std.specs.Prelude.{Bool, true, false, ◌||◌, Option, Some, None}
use Rattle.cedar_terms.specs.Entities.{BareEntityUID}
use Rattle.semantics_policies.specs.Policies.{EntityOrSlot, entity, slot, ScopeConstraint, any, equals, is_in, is_of, is_of_in, BarePolicy}

abbrev pub is_slot : EntityOrSlot → Bool
is_slot (entity u) = false
is_slot slot = true

-- whether what a scope says has a slot
abbrev pub has_slot : ScopeConstraint → Bool
has_slot any = false
has_slot (equals o) = is_slot o
has_slot (is_in o) = is_slot o
has_slot (is_of n) = false
has_slot (is_of_in n o) = is_slot o

-- whether a policy has a slot
abbrev pub is_template : BarePolicy → Bool
is_template p = has_slot p.principal || has_slot p.resource

-- an entity in place of the slot, if one is given
abbrev pub filled_operand : Option BareEntityUID → EntityOrSlot → EntityOrSlot
filled_operand v (entity u) = entity u
filled_operand None slot = slot
filled_operand (Some u) slot = entity u

abbrev pub filled_scope : Option BareEntityUID → ScopeConstraint → ScopeConstraint
filled_scope v any = any
filled_scope v (equals o) = equals (filled_operand v o)
filled_scope v (is_in o) = is_in (filled_operand v o)
filled_scope v (is_of n) = is_of n
filled_scope v (is_of_in n o) = is_of_in n (filled_operand v o)

-- a policy with entities in place of its slots
abbrev pub filled : Option BareEntityUID → Option BareEntityUID → BarePolicy → BarePolicy
filled principal resource p = record p { principal = filled_scope principal p.principal; resource = filled_scope resource p.resource }
