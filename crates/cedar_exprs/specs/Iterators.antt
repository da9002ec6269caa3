-- What the walks over an expression still give, and which of its positions are slots and unknowns.
use Rattle.std.specs.Prelude.{ℕ, List, Option, Some, None}
use Rattle.std.specs.List.{filter_map}
use Rattle.std.specs.Option.{option_copied}
use Rattle.std.specs.Vec.{vec_capacity}
use Rattle.cedar_names.specs.Place.{Place}
use Rattle.cedar_names.specs.declared.slot.SlotId.{SlotId}
use Rattle.cedar_terms.specs.declared.unknown.Unknown.{Unknown}
use Rattle.cedar_exprs.specs.BareExpr.{kind_of, expr_place}
use Rattle.cedar_exprs.specs.Walks.{given_by, referents}
use Rattle.cedar_exprs.specs.declared.expr.Expr.{Expr}
use Rattle.cedar_exprs.specs.declared.expr.KindOf.{KindOf}
use Rattle.cedar_exprs.specs.declared.walks.expr_iterator.ExprIterator.{ExprIterator}
use Rattle.cedar_exprs.specs.declared.walks.expr_iterator.SlotRef.{SlotRef}
use Rattle.cedar_exprs.specs.declared.walks.expr_iterator.Slots.{Slots}
use Rattle.cedar_exprs.specs.declared.walks.expr_iterator.Unknowns.{Unknowns}

-- the unknown that a kind is
abbrev pub unknown_of_kind : {E : Type 0} → KindOf E → Option Unknown
unknown_of_kind (KindOf.Unknown u) = Some u
unknown_of_kind k = None

-- the unknown that an expression is
abbrev pub unknown_of : {T : Type 0} → Expr T → Option Unknown
unknown_of e = unknown_of_kind (kind_of e)

-- the slot that a kind is, with this place
abbrev pub slot_of_kind : {E : Type 0} → Option Place → KindOf E → Option (SlotId × Option Place)
slot_of_kind place (KindOf.Slot s) = Some (s, place)
slot_of_kind place k = None

-- the slot that an expression is, with its place
abbrev pub slot_of : {T : Type 0} → Expr T → Option (SlotId × Option Place)
slot_of e = slot_of_kind (expr_place e) (kind_of e)

-- what a reference to a slot shows
abbrev pub slot_at : SlotRef → SlotId × Option Place
slot_at r = (r.id, option_copied r.loc)

-- how many entries are reserved for the stack of a walk
abbrev pub reserved : {T : Type 0} → ExprIterator T → ℕ
reserved w = vec_capacity w.expression_stack

-- the entries that the walk over slots has room for
abbrev pub reserved_by_slots : {T : Type 0} → Slots T → ℕ
reserved_by_slots s = reserved s.walk

-- the same for the walk over unknowns
abbrev pub reserved_by_unknowns : {T : Type 0} → Unknowns T → ℕ
reserved_by_unknowns u = reserved u.walk

-- what is still given
abbrev pub positions_left : {T : Type 0} → ExprIterator T → List (Expr T)
positions_left w = given_by (referents w.expression_stack.items)

-- the slots that a walk has still to give, with their places
abbrev pub slots_left : {T : Type 0} → Slots T → List (SlotId × Option Place)
slots_left s = filter_map slot_of (positions_left s.walk)

-- the unknowns that a walk has still to give
abbrev pub unknowns_left : {T : Type 0} → Unknowns T → List Unknown
unknowns_left u = filter_map unknown_of (positions_left u.walk)
