-- What policies mean: without places, as the definitions of the grammar have them.
use Rattle.std.specs.Prelude.{map}
use Rattle.std.specs.Rc.{rc_str_bytes}
use Rattle.cedar_terms.specs.Entities.{bare_entity_type, bare_entity_uid}
use Rattle.cedar_builders.specs.BareExpr.{Text}
use Rattle.cedar_exprs.specs.BareExpr.{bare_expr}
use Rattle.cedar_policies.specs.declared.policy.ActionConstraint.{ActionConstraint}
use Rattle.cedar_policies.specs.declared.policy.ActionConstraint.TheVariants as actions
use Rattle.cedar_policies.specs.declared.policy.Annotation.{Annotation}
use Rattle.cedar_policies.specs.declared.policy.Clause.{Clause}
use Rattle.cedar_policies.specs.declared.policy.Clause.TheVariants as clauses
use Rattle.cedar_policies.specs.declared.policy.Effect.{Effect}
use Rattle.cedar_policies.specs.declared.policy.Effect.TheVariants as effects
use Rattle.cedar_policies.specs.declared.policy.EntityOrSlot.{EntityOrSlot}
use Rattle.cedar_policies.specs.declared.policy.EntityOrSlot.TheVariants as operands
use Rattle.cedar_policies.specs.declared.policy.ScopeConstraint.{ScopeConstraint}
use Rattle.cedar_policies.specs.declared.policy.ScopeConstraint.TheVariants as scopes
use Rattle.cedar_policies.specs.declared.policy.Template.{Template}
use Rattle.semantics_policies.specs.Policies as bare

abbrev pub bare_effect : Effect → bare.Effect
bare_effect effects.Permit = bare.permit
bare_effect effects.Forbid = bare.forbid

abbrev pub bare_operand : EntityOrSlot → bare.EntityOrSlot
bare_operand (operands.Entity u) = bare.entity (bare_entity_uid u.value)
bare_operand operands.Slot = bare.slot

abbrev pub bare_scope : ScopeConstraint → bare.ScopeConstraint
bare_scope scopes.Any = bare.any
bare_scope (scopes.Eq o) = bare.equals (bare_operand o)
bare_scope (scopes.In o) = bare.is_in (bare_operand o)
bare_scope (scopes.Is t) = bare.is_of (bare_entity_type t)
bare_scope (scopes.IsIn t o) = bare.is_of_in (bare_entity_type t) (bare_operand o)

abbrev pub bare_action : ActionConstraint → bare.ActionConstraint
bare_action actions.Any = bare.any_action
bare_action (actions.Eq u) = bare.action_equals (bare_entity_uid u.value)
bare_action (actions.In u) = bare.action_in (bare_entity_uid u.value)
bare_action (actions.InSet us) = bare.action_in_set (map (λ u. bare_entity_uid u.value) us.items)

abbrev pub bare_clause : Clause → bare.Clause
bare_clause (clauses.When e) = bare.when_true (bare_expr e)
bare_clause (clauses.Unless e) = bare.unless_true (bare_expr e)

abbrev pub bare_annotation : Annotation → Text × Text
bare_annotation a = (rc_str_bytes a.key, rc_str_bytes a.value)

-- a policy without places
abbrev pub bare_policy : Template → bare.BarePolicy
bare_policy p = record {
  annotations = map bare_annotation p.annotations.items;
  effect = bare_effect p.effect;
  principal = bare_scope p.principal;
  action = bare_action p.action;
  resource = bare_scope p.resource;
  clauses = map bare_clause p.clauses.items;
}
