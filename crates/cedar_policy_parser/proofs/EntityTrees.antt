-- Trees that are entities and slots.
use Rattle.std.proofs.Common.{◌≡◌, ◌<◌, ℕ, suc, Bool, true, false, Option, Some, None, IsSome, List, [], ◌∷◌, get_or, length, map, refl, sym, ◌∙◌, ap, arith}
use Rattle.std.proofs.lemmas.Bool.{false≢true}
use Rattle.std.specs.Option.{option_map}
use Rattle.std.proofs.lemmas.Option.{same_Some}
use Rattle.cedar_names.specs.declared.slot.SlotId.{SlotId}
use Rattle.std.specs.Global.{Global}
use Rattle.std.specs.declared.rc.Rc.{Rc}
use Rattle.cedar_terms.specs.Entities.{BareEntityUID, bare_entity_uid}
use Rattle.cedar_terms.specs.declared.entity.EntityUID.{EntityUID}
use Rattle.cedar_terms.specs.Literals.{BareLiteral, EntityLit}
use Rattle.cedar_builders.specs.BareExpr.{BareExpr, Lit, Slot}
use Rattle.semantics_policies.specs.Conditions.{entity_tree, operand_tree}
use Rattle.semantics_policies.specs.Policies.{EntityOrSlot, entity, slot}
use Rattle.cedar_parser.proofs.Operators.{none_some}
use Rattle.cedar_policy_parser.specs.Scopes.{entity_of, literal_entity, slot_of}

literal_is : (l : BareLiteral) (u : BareEntityUID) → literal_entity l ≡ Some u → l ≡ EntityLit u
literal_is (EntityLit v) u h = ap EntityLit (same_Some v u h)
literal_is l u h = cc

pub entity_is : (e : BareExpr) (u : BareEntityUID) → entity_of e ≡ Some u → e ≡ entity_tree u
entity_is (Lit l) u h = ap Lit (literal_is l u h)
entity_is e u h = cc

pub slot_is : (e : BareExpr) (s : SlotId) → slot_of e ≡ Some s → e ≡ Slot s
slot_is (Slot t) s h = ap Slot (same_Some t s h)
slot_is e s h = cc

-- an entity that was found in a tree
pub entity_found : (e : BareExpr) (u : Rc EntityUID Global) → option_map (λ v. bare_entity_uid v.value) (Some u) ≡ entity_of e
    → e ≡ entity_tree (bare_entity_uid u.value)
entity_found e u h = entity_is e (bare_entity_uid u.value) (sym h)

-- no entity was found
pub none_found : {A : Type 0} (f : A → BareEntityUID) (o : Option A) (e : BareExpr) → ((x : A) → o ≡ Some x → ⊥) → option_map f o ≡ entity_of e
    → None ≡ entity_of e
none_found f None e other h = h
none_found f (Some x) e other h = absurd (other x refl)

-- what is there was found
pub some_found : {A : Type 0} (o : Option A) → ((x : A) → o ≡ Some x → ⊥) → IsSome o → ⊥
some_found None other h = false≢true h
some_found (Some x) other h = other x refl

-- ---- what the tree has to be

-- the operand is the entity that was found
pub operand_entity : (s : SlotId) (o : EntityOrSlot) (u : BareEntityUID) (e : BareExpr) → e ≡ operand_tree s o → Some u ≡ entity_of e → entity u ≡ o
operand_entity s (entity v) u e t h = ap entity (same_Some u v (h ∙ ap entity_of t))
operand_entity s slot u e t h = absurd (none_some (sym (h ∙ ap entity_of t)))

-- it is the slot, where no entity was found
pub operand_slot : (s : SlotId) (o : EntityOrSlot) (e : BareExpr) → e ≡ operand_tree s o → None ≡ entity_of e → (slot_of e ≡ Some s) × (slot ≡ o)
operand_slot s (entity v) e t h = absurd (none_some (h ∙ ap entity_of t))
operand_slot s slot e t h = (ap slot_of t, refl)

pub same_entity : (u v : BareEntityUID) (e : BareExpr) → e ≡ entity_tree u → Some v ≡ entity_of e → v ≡ u
same_entity u v e t h = same_Some v u (h ∙ ap entity_of t)

pub some_entity : (u : BareEntityUID) (e : BareExpr) → e ≡ entity_tree u → None ≡ entity_of e → ⊥
some_entity u e t h = none_some (h ∙ ap entity_of t)

abbrev head_or : BareExpr → List BareExpr → BareExpr
head_or d [] = d
head_or d (e ∷ es) = e

abbrev behind : List BareExpr → List BareExpr
behind [] = []
behind (e ∷ es) = es

abbrev is_there : List BareExpr → Bool
is_there [] = false
is_there (e ∷ es) = true

cons_nil : {e : BareExpr} {es : List BareExpr} → e ∷ es ≡ [] → ⊥
cons_nil h = false≢true (sym (ap is_there h))

-- the trees are those of entities, so the one at this place is
pub entity_at : {A : Type 0} (f : A → BareExpr) (xs : List A) (i : ℕ) (x : A) (us : List BareEntityUID) → i < length xs → x ≡ get_or xs i x
    → map f xs ≡ map entity_tree us → None ≡ entity_of (f x) → ⊥
entity_at f [] i x us l e h n = absurd (omega (arith, l))
entity_at f (y ∷ ys) i x [] l e h n = absurd (cons_nil h)
entity_at f (y ∷ ys) (suc i) x (u ∷ us) l e h n = entity_at f ys i x us (omega (arith, l)) e (ap behind h) n
entity_at f (y ∷ ys) i x (u ∷ us) l e h n = some_entity u (f x) (ap f e ∙ ap (head_or (f y)) h) n
