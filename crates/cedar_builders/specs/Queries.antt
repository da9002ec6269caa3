-- Questions about trees (the queries of `Expr` in Cedar's `expr.rs`).
use Rattle.std.specs.Prelude.{Bool, true, false}
use Rattle.std.specs.List.{list_all, list_any}
use Rattle.cedar_terms.specs.Literals.{is_entity_literal}
use Rattle.cedar_builders.specs.BareExpr.{BareExpr, Lit, Var, Slot, Unknown, Set, Record}
use Rattle.cedar_builders.specs.Walks.{members_of, positions}

-- whether a tree is the literal of an entity
abbrev pub is_ref : BareExpr → Bool
is_ref (Lit l) = is_entity_literal l
is_ref e = false

-- whether it is a slot
abbrev pub is_slot : BareExpr → Bool
is_slot (Slot s) = true
is_slot e = false

-- whether it is an unknown
abbrev pub is_unknown : BareExpr → Bool
is_unknown (Unknown n t) = true
is_unknown e = false

-- whether it is a set whose members are all literals of entities
abbrev pub is_ref_set : BareExpr → Bool
is_ref_set (Set es) = list_all is_ref (members_of es)
is_ref_set e = false

-- the kinds of which an expression may be that partial evaluation projects from
abbrev pub is_projectable_node : BareExpr → Bool
is_projectable_node (Lit l) = true
is_projectable_node (Var v) = true
is_projectable_node (Unknown n t) = true
is_projectable_node (Set es) = true
is_projectable_node (Record fs) = true
is_projectable_node e = false

-- whether each position is of one of these kinds
abbrev pub is_projectable : BareExpr → Bool
is_projectable e = list_all is_projectable_node (positions e)

-- whether some position is an unknown
abbrev pub contains_unknown : BareExpr → Bool
contains_unknown e = list_any is_unknown (positions e)
