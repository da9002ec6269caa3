-- Conditions of policies, worked by hand.
use Rattle.std.specs.Prelude.{◌≡◌, ℕ, true, false, List, [], ◌∷◌, ◌++◌, codes}
use Rattle.cedar_names.specs.Names.{BareName}
use Rattle.cedar_names.specs.declared.slot.SlotId.TheVariants as slots
use Rattle.cedar_terms.specs.Entities.{BareEntityUID}
use Rattle.cedar_terms.specs.Literals.{BoolLit, EntityLit}
use Rattle.cedar_terms.specs.declared.ops.BinaryOp.TheVariants as Binary
use Rattle.cedar_terms.specs.declared.ops.UnaryOp.TheVariants as Unary
use Rattle.cedar_terms.specs.declared.var.Var.TheVariants as variables
use Rattle.cedar_builders.specs.BareExpr.{BareExpr, Lit, Var, Slot, And, UnaryApp, BinaryApp, GetAttr, Set, Is, no_trees, tree}
use Rattle.semantics_policies.specs.Conditions.{condition}
use Rattle.semantics_policies.specs.Grammar.{is_action}
use Rattle.semantics_policies.specs.Policies.{Effect, entity, slot, any, equals, is_in, is_of_in, any_action, action_equals, action_in_set, Clause, when_true, unless_true, BarePolicy}

-- a policy whose scope takes every request
abbrev pub of_any : Effect → List Clause → BarePolicy
of_any e cs = record { annotations = []; effect = e; principal = any; action = any_action; resource = any; clauses = cs }

-- `resource.public`
abbrev pub is_public : BareExpr
is_public = GetAttr (Var variables.Resource) (codes "public")

-- `permit(principal, action, resource);` says `true`
abbrev pub TakesAll : Type 0
TakesAll = (e : Effect) → condition (of_any e []) ≡ Lit (BoolLit true)

-- `when { resource.public }` says `true && resource.public`, and `unless` `true && !resource.public`
pub record ClausesWorked : Type 0 where
  pub when_public : (e : Effect) → condition (of_any e (when_true is_public ∷ [])) ≡ And (Lit (BoolLit true)) is_public
  pub unless_public : (e : Effect) → condition (of_any e (unless_true is_public ∷ [])) ≡ And (Lit (BoolLit true)) (UnaryApp Unary.Not is_public)

-- the last clause is the right operand of the outermost `&&`, unless both sides are Boolean literals
abbrev pub LastClause : Type 0
LastClause =
    (e : Effect) (cs : List Clause) (n : BareName)
    → condition (of_any e (cs ++ (when_true (Is (Var variables.Principal) n) ∷ [])))
    ≡ And (condition (of_any e cs)) (Is (Var variables.Principal) n)

-- `(principal == U, action in [], resource is T in R)` says `principal == U && action in [] && (resource is T && resource in R)`
abbrev pub ScopeWorked : Type 0
ScopeWorked =
    (f : Effect) (u r : BareEntityUID) (n : BareName)
    → condition (record { annotations = []; effect = f; principal = equals (entity u); action = action_in_set []; resource = is_of_in n (entity r); clauses = [] })
    ≡ And
    (And (BinaryApp Binary.Eq (Var variables.Principal) (Lit (EntityLit u))) (BinaryApp Binary.In (Var variables.Action) (Set no_trees)))
    (And (Is (Var variables.Resource) n) (BinaryApp Binary.In (Var variables.Resource) (Lit (EntityLit r))))

-- `(principal == ?principal, action == A, resource in ?resource)` says the same with the slots
abbrev pub TemplateWorked : Type 0
TemplateWorked =
    (f : Effect) (a : BareEntityUID)
    → condition (record { annotations = []; effect = f; principal = equals slot; action = action_equals a; resource = is_in slot; clauses = [] })
    ≡ And
    (And (BinaryApp Binary.Eq (Var variables.Principal) (Slot slots.Principal)) (BinaryApp Binary.Eq (Var variables.Action) (Lit (EntityLit a))))
    (BinaryApp Binary.In (Var variables.Resource) (Slot slots.Resource))

-- `Shop::Action::"view"` is an action, whatever the namespace, and `User::"view"` is none
pub record ActionsWorked : Type 0 where
  pub is_one : (ns : List (List ℕ)) → is_action (record { entity_type = record { path = ns; basename = codes "Action" }; eid = codes "view" }) ≡ true
  pub is_none : (ns : List (List ℕ)) → is_action (record { entity_type = record { path = ns; basename = codes "User" }; eid = codes "view" }) ≡ false
