-- Templates with their slots filled.
use Rattle.std.proofs.Common.{◌≡◌, Bool, false, List, Option, ◌∙◌, ap, inl, inr}
use Rattle.std.specs.Prelude.{◌||◌}
use Rattle.cedar_names.specs.declared.slot.SlotId.TheVariants as slots
use Rattle.cedar_terms.specs.Entities.{BareEntityUID}
use Rattle.cedar_builders.specs.BareExpr.{Text}
use Rattle.semantics_policies.specs.Linking.{filled, filled_scope, has_slot}
use Rattle.semantics_policies.specs.Policies.{ScopeConstraint, ActionConstraint, Clause, BarePolicy}
use Rattle.cedar_policies.specs.Links.{IsFillError, IsLinkErrorOf}
use Rattle.cedar_policies.specs.declared.link.LinkError.{LinkError}
use Rattle.cedar_policies.specs.declared.link.LinkError.TheVariants as errors

-- the same, part by part
pub linked : (p : BarePolicy) (u v : Option BareEntityUID) (xs : List (Text × Text)) (principal resource : ScopeConstraint) (action : ActionConstraint)
    (cs : List Clause) → xs ≡ p.annotations → principal ≡ filled_scope u p.principal → action ≡ p.action → resource ≡ filled_scope v p.resource
    → cs ≡ p.clauses
    → record { annotations = xs; effect = p.effect; principal = principal; action = action; resource = resource; clauses = cs } ≡ filled u v p
linked p u v xs principal resource action cs ex ep ea er ec =
    ap (λ x. record { annotations = x; effect = p.effect; principal = principal; action = action; resource = resource; clauses = cs }) ex
    ∙ (ap (λ x. record { annotations = p.annotations; effect = p.effect; principal = x; action = action; resource = resource; clauses = cs }) ep
    ∙ (ap (λ x. record { annotations = p.annotations; effect = p.effect; principal = filled_scope u p.principal; action = x; resource = resource; clauses = cs }) ea
    ∙ (ap (λ x. record { annotations = p.annotations; effect = p.effect; principal = filled_scope u p.principal; action = p.action; resource = x; clauses = cs }) er
    ∙ ap (λ x. record { annotations = p.annotations; effect = p.effect; principal = filled_scope u p.principal; action = p.action; resource = filled_scope v p.resource; clauses = x }) ec)))

-- no slot is left
pub whole : (a b : Bool) → a ≡ false → b ≡ false → (a || b) ≡ false
whole a b h k = ap (λ x. x || b) h ∙ k

pub principal_refused : (p : BarePolicy) (u v : Option BareEntityUID) (e : LinkError) → IsFillError slots.Principal (has_slot p.principal) u e
    → IsLinkErrorOf p u v e
principal_refused p u v errors.NoSlot h = absurd h
principal_refused p u v (errors.Missing s) h = inl h
principal_refused p u v (errors.Extra s) h = inl h
principal_refused p u v errors.Memory h = tt

pub resource_refused : (p : BarePolicy) (u v : Option BareEntityUID) (e : LinkError) → IsFillError slots.Resource (has_slot p.resource) v e
    → IsLinkErrorOf p u v e
resource_refused p u v errors.NoSlot h = absurd h
resource_refused p u v (errors.Missing s) h = inr h
resource_refused p u v (errors.Extra s) h = inr h
resource_refused p u v errors.Memory h = tt
