-- Policies as they decide, and what is decided by them.
use Rattle.std.proofs.Common.{◌≡◌, ℕ, Bool, List, IsTrue, refl, ap, ◌∙◌, subst}
use Rattle.std.specs.declared.cmp.Ordering.{Ordering}
use Rattle.cedar_builders.specs.BareExpr.{Text}
use Rattle.cedar_builders.specs.Keys.{are_distinct}
use Rattle.semantics_policies.specs.Conditions.{condition}
use Rattle.semantics_policies.specs.Identifiers.{policy_ids}
use Rattle.semantics_policies.specs.Policies as texts_of
use Rattle.semantics_request.specs.Requests.{Functions, Knowledge}
use Rattle.semantics_authorize.specs.Authorization.{authorized}
use Rattle.semantics_authorize.specs.Decisions.{Response}
use Rattle.cedar_policies.specs.Policies as texts
use Rattle.cedar_policies.specs.PolicySets.{bare_policies, ids_of}
use Rattle.cedar_policies.specs.declared.policy.Effect.{Effect}
use Rattle.cedar_policies.specs.declared.policy.Effect.TheVariants.{Permit, Forbid}
use Rattle.cedar_policies.specs.declared.policy.Template.{Template}
use Rattle.cedar_policies.specs.declared.policy_set.Policy.{Policy as NamedPolicy}
use Rattle.cedar_policy_parser.specs.Streams.{ArePoliciesOf}
use Rattle.cedar_authorizer.specs.Policies.{bare_effect, bare_policy}
use Rattle.cedar_authorizer.specs.declared.policy.Policy.{Policy}
use Rattle.cedar_decisions.specs.Decisions.{IsDecidedBy, deciding, effect_of, policy_of}
use Rattle.cedar_decisions.specs.Sets.{deciding_in}

same_effect : (e : Effect) → bare_effect e ≡ effect_of (texts.bare_effect e)
same_effect Permit = refl
same_effect Forbid = refl

-- a policy as it decides, part by part
pub policy_made : (p : Policy) (i : Text) (t : Template)
    → (bare_policy p).id ≡ i → (bare_policy p).effect ≡ bare_effect t.effect
    → (bare_policy p).condition ≡ condition (texts.bare_policy t)
    → bare_policy p ≡ policy_of i (texts.bare_policy t)
policy_made p i t id effect says =
    let same = effect ∙ same_effect t.effect in
    λ j. record { id = id j; effect = same j; condition = says j }

-- policies that are named as those of a text decide as its policies do
pub same_deciding : (ps : List NamedPolicy) (qs : List texts_of.BarePolicy)
    → ids_of ps ≡ policy_ids 0 (bare_policies ps) → bare_policies ps ≡ qs
    → deciding_in ps ≡ deciding (policy_ids 0 qs) qs
same_deciding ps qs ids same =
    ap (λ is. deciding is (bare_policies ps)) ids ∙ ap (λ qs. deciding (policy_ids 0 qs) qs) same

module _ {X : Type 0} (R : X → X → Ordering) (E : X → X → Bool) (T : Functions X)
    (k : Knowledge X) (ps : List NamedPolicy) (r : Response)
    (ids : ids_of ps ≡ policy_ids 0 (bare_policies ps))
    (is : r ≡ authorized R E T k (deciding_in ps)) where
  -- a response by the policies of a text
  pub decided : (text : List ℕ) → ArePoliciesOf text (bare_policies ps)
      → IsTrue (are_distinct (ids_of ps)) → IsDecidedBy R E T k text r
  decided text stand distinct = record {
    policies = bare_policies ps;
    stand = stand;
    distinct = subst (λ is. IsTrue (are_distinct is)) ids distinct;
    response = is ∙ ap (authorized R E T k) (same_deciding ps (bare_policies ps) ids refl);
  }

  pub response_by : (qs : List texts_of.BarePolicy) → bare_policies ps ≡ qs
      → r ≡ authorized R E T k (deciding (policy_ids 0 qs) qs)
  response_by qs same = is ∙ ap (authorized R E T k) (same_deciding ps qs ids same)
