-- The condition of a policy: its scope and its clauses as one expression (Cedar's `condition` in its file `policy.rs`).
use Rattle.std.specs.Prelude.{true, List, [], ◌∷◌, map}
use Rattle.cedar_names.specs.declared.slot.SlotId.{SlotId}
use Rattle.cedar_names.specs.declared.slot.SlotId.TheVariants as slots
use Rattle.cedar_terms.specs.Entities.{BareEntityUID}
use Rattle.cedar_terms.specs.Literals.{BoolLit, EntityLit}
use Rattle.cedar_terms.specs.declared.ops.BinaryOp.TheVariants as Binary
use Rattle.cedar_terms.specs.declared.ops.UnaryOp.TheVariants as Unary
use Rattle.cedar_terms.specs.declared.var.Var.{Var as Variable}
use Rattle.cedar_terms.specs.declared.var.Var.TheVariants as variables
use Rattle.cedar_builders.specs.BareExpr.{BareExpr, Lit, Var, Slot, UnaryApp, BinaryApp, Set, Is, trees_of}
use Rattle.cedar_builders.specs.Trees.{and_made}
use Rattle.semantics_policies.specs.Policies.{EntityOrSlot, entity, slot, ScopeConstraint, any, equals, is_in, is_of, is_of_in, ActionConstraint, any_action, action_equals, action_in, action_in_set, Clause, when_true, unless_true, BarePolicy}

-- the tree of an entity
abbrev pub entity_tree : BareEntityUID → BareExpr
entity_tree u = Lit (EntityLit u)

-- the tree of an entity, or of this slot
abbrev pub operand_tree : SlotId → EntityOrSlot → BareExpr
operand_tree s (entity u) = entity_tree u
operand_tree s slot = Slot s

-- what a scope says of a variable, whose slot this is
abbrev pub scope_tree : Variable → SlotId → ScopeConstraint → BareExpr
scope_tree v s any = Lit (BoolLit true)
scope_tree v s (equals o) = BinaryApp Binary.Eq (Var v) (operand_tree s o)
scope_tree v s (is_in o) = BinaryApp Binary.In (Var v) (operand_tree s o)
scope_tree v s (is_of n) = Is (Var v) n
scope_tree v s (is_of_in n o) = and_made (Is (Var v) n) (BinaryApp Binary.In (Var v) (operand_tree s o))

-- what a scope says of the action
abbrev pub action_tree : ActionConstraint → BareExpr
action_tree any_action = Lit (BoolLit true)
action_tree (action_equals u) = BinaryApp Binary.Eq (Var variables.Action) (entity_tree u)
action_tree (action_in u) = BinaryApp Binary.In (Var variables.Action) (entity_tree u)
action_tree (action_in_set us) = BinaryApp Binary.In (Var variables.Action) (Set (trees_of (map entity_tree us)))

-- what a clause says: its expression, or that this is not true
abbrev pub clause_tree : Clause → BareExpr
clause_tree (when_true e) = e
clause_tree (unless_true e) = UnaryApp Unary.Not e

-- what a tree says, and then each of the clauses
abbrev pub with_clauses : BareExpr → List Clause → BareExpr
with_clauses e [] = e
with_clauses e (c ∷ cs) = with_clauses (and_made e (clause_tree c)) cs

-- what the scope says: of the principal, of the action, and of the resource
abbrev pub scope_of : BarePolicy → BareExpr
scope_of p =
    and_made
    (and_made (scope_tree variables.Principal slots.Principal p.principal) (action_tree p.action))
    (scope_tree variables.Resource slots.Resource p.resource)

-- the condition: the scope, and then each clause in turn
abbrev pub condition : BarePolicy → BareExpr
condition p = with_clauses (scope_of p) p.clauses
