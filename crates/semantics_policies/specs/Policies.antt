-- Policies without places (Cedar's `TemplateBody` in its file `policy.rs`): what the text of a policy says.
use Rattle.std.specs.Prelude.{List}
use Rattle.cedar_names.specs.Names.{BareName}
use Rattle.cedar_terms.specs.Entities.{BareEntityUID}
use Rattle.cedar_builders.specs.BareExpr.{Text, BareExpr}

-- what a policy does if its condition is true
pub data Effect : Type 0 where
  permit forbid : Effect

-- what stands behind `==` or `in` for the principal or the resource: an entity, or its slot
pub data EntityOrSlot : Type 0 where
  entity : BareEntityUID → EntityOrSlot
  slot : EntityOrSlot

-- which principals, or which resources: all; `== E`; `in E`; `is T`; `is T in E`
pub data ScopeConstraint : Type 0 where
  any : ScopeConstraint
  equals : EntityOrSlot → ScopeConstraint
  is_in : EntityOrSlot → ScopeConstraint
  is_of : BareName → ScopeConstraint
  is_of_in : BareName → EntityOrSlot → ScopeConstraint

-- which actions: all; `== E`; `in E`; `in [E, ..]`
pub data ActionConstraint : Type 0 where
  any_action : ActionConstraint
  action_equals : BareEntityUID → ActionConstraint
  action_in : BareEntityUID → ActionConstraint
  action_in_set : List BareEntityUID → ActionConstraint

-- `when { E }` or `unless { E }`
pub data Clause : Type 0 where
  when_true : BareExpr → Clause
  unless_true : BareExpr → Clause

-- a policy, or a template if it has a slot; an annotation without a text has the empty one
pub record BarePolicy : Type 0 where
  pub annotations : List (Text × Text)
  pub effect : Effect
  pub principal : ScopeConstraint
  pub action : ActionConstraint
  pub resource : ScopeConstraint
  pub clauses : List Clause
