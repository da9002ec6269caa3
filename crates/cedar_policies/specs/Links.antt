-- Why templates are not linked.
use Rattle.std.specs.Prelude.{◌≡◌, ◌⊎◌, Bool, true, false, Option, None, IsSome, ⊤}
use Rattle.std.specs.Global.{Global}
use Rattle.std.specs.Option.{option_map}
use Rattle.std.specs.declared.rc.Rc.{Rc}
use Rattle.cedar_names.specs.declared.slot.SlotId.{SlotId}
use Rattle.cedar_names.specs.declared.slot.SlotId.TheVariants as slots
use Rattle.cedar_terms.specs.Entities.{BareEntityUID, bare_entity_uid}
use Rattle.cedar_terms.specs.declared.entity.EntityUID.{EntityUID}
use Rattle.semantics_policies.specs.Linking.{has_slot, is_template}
use Rattle.semantics_policies.specs.Policies.{BarePolicy}
use Rattle.cedar_policies.specs.declared.link.LinkError.{LinkError}
use Rattle.cedar_policies.specs.declared.link.LinkError.TheVariants as errors

-- the entity that is given
abbrev pub value_of : Option (Rc EntityUID Global) → Option BareEntityUID
value_of = option_map (λ u. bare_entity_uid u.value)

-- why a slot is not filled: it is there and no value is, or a value is there and it is not; or memory ran out
abbrev pub IsFillError : SlotId → Bool → Option BareEntityUID → LinkError → Type 0
IsFillError s there v errors.NoSlot = ⊥
IsFillError s there v (errors.Missing t) = (t ≡ s) × (there ≡ true) × (v ≡ None)
IsFillError s there v (errors.Extra t) = (t ≡ s) × (there ≡ false) × IsSome v
IsFillError s there v errors.Memory = ⊤

-- why a template is not linked
abbrev pub IsLinkErrorOf : BarePolicy → Option BareEntityUID → Option BareEntityUID → LinkError → Type 0
IsLinkErrorOf p u v errors.NoSlot = is_template p ≡ false
IsLinkErrorOf p u v (errors.Missing s) = IsFillError slots.Principal (has_slot p.principal) u (errors.Missing s) ⊎ IsFillError slots.Resource (has_slot p.resource) v (errors.Missing s)
IsLinkErrorOf p u v (errors.Extra s) = IsFillError slots.Principal (has_slot p.principal) u (errors.Extra s) ⊎ IsFillError slots.Resource (has_slot p.resource) v (errors.Extra s)
IsLinkErrorOf p u v errors.Memory = ⊤
