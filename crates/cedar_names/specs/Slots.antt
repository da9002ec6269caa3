-- The names of slots (Cedar's file `name.rs`).
use Rattle.std.specs.Prelude.{ℕ, List, codes}
use Rattle.cedar_names.specs.declared.slot.PrincipalOrResource.{PrincipalOrResource}
use Rattle.cedar_names.specs.declared.slot.PrincipalOrResource.TheVariants.{Principal as ThePrincipal, Resource as TheResource}
use Rattle.cedar_names.specs.declared.slot.SlotId.{SlotId}
use Rattle.cedar_names.specs.declared.slot.SlotId.TheVariants.{Principal, Resource}

-- the slot of the principal, and that of the resource
abbrev pub slot_of : PrincipalOrResource → SlotId
slot_of ThePrincipal = Principal
slot_of TheResource = Resource

-- the text of a slot (`Display` in `name.rs`)
abbrev pub slot_text : SlotId → List ℕ
slot_text Principal = codes "?principal"
slot_text Resource = codes "?resource"
