-- The laws of the response to a request, over the definitions alone.
use Rattle.std.specs.Prelude.{◌≡◌, ◌≢◌, Bool, not, ◌&&◌, IsTrue, List, map, Some, None, IsPermutation, if◌then◌else◌}
use Rattle.std.specs.List.{list_any, list_all}
use Rattle.std.specs.declared.cmp.Ordering.{Ordering}
use Rattle.cedar_terms.specs.Entities.{BareEntityUID}
use Rattle.cedar_builders.specs.Environment.{fold}
use Rattle.cedar_builders.specs.Trees.{tree_ops, sure}
use Rattle.semantics_values.specs.BareValue.{BareCall}
use Rattle.semantics_values.specs.Laws.{BindsPlainValues}
use Rattle.semantics_simplify.specs.Asks.{asks_only}
use Rattle.semantics_simplify.specs.Simplified.{tree_of}
use Rattle.semantics_simplify.specs.Simplifier.{simplified}
use Rattle.semantics_request.specs.Entities.{NotKnown, Entities, both_stores}
use Rattle.semantics_request.specs.Requests.{Functions, Knowledge}
use Rattle.semantics_request.specs.Evaluator.{evaluated}
use Rattle.semantics_request.specs.Put.{IsPlainRequest, of_entities_alone, with_none_bound, put}
use Rattle.semantics_request.specs.Residuals.{residual}
use Rattle.semantics_request.specs.Laws.{IsFuller, is_known}
use Rattle.semantics_authorize.specs.Policies.{Permit, Forbid, Policy, verdict}
use Rattle.semantics_authorize.specs.ResidualPolicies.{residual_policies}
use Rattle.semantics_authorize.specs.Decisions.{Allow, Deny, applies}
use Rattle.semantics_authorize.specs.DecisionLaws.{IsSameResponse}
use Rattle.semantics_authorize.specs.Authorization.{with_condition, evaluated_policies, authorized}

-- R and E are the order and the equality of extension values
module _ {X : Type 0} (R : X → X → Ordering) (E : X → X → Bool) where
  -- to put what is bound into the policies first changes no response
  abbrev pub PutFirst : Type 0
  PutFirst =
      (T : Functions X) (k : Knowledge X) (ps : List Policy)
      → authorized R E T (with_none_bound k)
      (map (with_condition (λ e. sure (fold tree_ops k.bindings e))) ps)
      ≡ authorized R E T k ps

  -- nor does it to put the request in too, if its values are plain
  abbrev pub RequestPutFirst : Type 0
  RequestPutFirst =
      (C : X → BareCall) (T : Functions X) (k : Knowledge X) → IsPlainRequest R k.request
      → (ps : List Policy)
      → authorized R E T (of_entities_alone k) (map (with_condition (put C k)) ps)
      ≡ authorized R E T k ps

  -- nor to simplify the policies
  abbrev pub SimplifiedFirst : Type 0
  SimplifiedFirst =
      (C : X → BareCall) (T : Functions X) (k : Knowledge X) → BindsPlainValues C k.bindings
      → (ps : List Policy)
      → authorized R E T k (map (with_condition (λ e. tree_of C (simplified R E C e))) ps)
      ≡ authorized R E T k ps

  -- nor, where more is known, to take the residual conditions that were made before
  abbrev pub ResidualFirst : Type 0
  ResidualFirst =
      (C : X → BareCall) (T : Functions X) (k l : Knowledge X) → IsFuller k l
      → BindsPlainValues C l.bindings → (ps : List Policy)
      → authorized R E T l (map (with_condition (λ e. tree_of C (residual R E C k e))) ps)
      ≡ authorized R E T l ps

  -- nor, where more is known, to take the residual policies that were made before
  abbrev pub ResidualPoliciesFirst : Type 0
  ResidualPoliciesFirst =
      (C : X → BareCall) (T : Functions X) (k l : Knowledge X) → IsFuller k l
      → BindsPlainValues C l.bindings → (ps : List Policy)
      → authorized R E T l (residual_policies (λ e. verdict (evaluated R E T k e)) ps)
      ≡ authorized R E T l ps

  -- a decision that is known stays where more is known
  abbrev pub DecisionStays : Type 0
  DecisionStays =
      (C : X → BareCall) (T : Functions X) (k l : Knowledge X) → IsFuller k l
      → BindsPlainValues C l.bindings → (ps : List Policy)
      → (authorized R E T k ps).decision ≢ None
      → (authorized R E T l ps).decision ≡ (authorized R E T k ps).decision

  -- so it stays where another part of the store is added
  abbrev pub StoreInParts : Type 0
  StoreInParts =
      (C : X → BareCall) (T : Functions X) (k : Knowledge X) (s : Entities X)
      → BindsPlainValues C k.bindings → (ps : List Policy)
      → (authorized R E T k ps).decision ≢ None
      → (authorized R E T (record k { entities = both_stores k.entities s }) ps).decision
      ≡ (authorized R E T k ps).decision

  -- where each entity is known, and all that the conditions ask for, the decision is Allow if some
  -- permit applies and no forbid, else Deny
  abbrev pub KnownIsDecided : Type 0
  KnownIsDecided =
      (C : X → BareCall) (T : Functions X) (k : Knowledge X)
      → ((u : BareEntityUID) → k.entities u ≢ NotKnown)
      → BindsPlainValues C k.bindings → (ps : List Policy)
      → IsTrue (list_all (λ p. asks_only (is_known k) p.condition) ps)
      → (authorized R E T k ps).decision
      ≡ (if list_any (applies Permit) (evaluated_policies R E T k ps)
      && not (list_any (applies Forbid) (evaluated_policies R E T k ps))
      then Some Allow else Some Deny)

  -- the order of the policies does not count
  abbrev pub PolicyOrderIsFree : Type 0
  PolicyOrderIsFree =
      (T : Functions X) (k : Knowledge X) (ps qs : List Policy) → IsPermutation ps qs
      → IsSameResponse (evaluated_policies R E T k ps) (evaluated_policies R E T k qs)
