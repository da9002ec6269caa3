-- What a partial response means.
use Rattle.std.specs.Prelude.{◌≡◌, ⊤, Bool, List, map, Option, Some, None}
use Rattle.std.specs.declared.cmp.Ordering.{Ordering}
use Rattle.semantics_values.specs.BareValue.{BareCall}
use Rattle.semantics_values.specs.Laws.{BindsPlainValues}
use Rattle.semantics_request.specs.Requests.{Functions, Knowledge}
use Rattle.semantics_request.specs.Laws.{IsFuller}
use Rattle.semantics_authorize.specs.Authorization.{authorized}
use Rattle.semantics_authorize.specs.Decisions as meant
use Rattle.semantics_authorize.specs.Policies as meant_policies
use Rattle.cedar_authorizer.specs.Policies.{bare_policy}
use Rattle.cedar_authorizer.specs.declared.partial.PartialResponse.{PartialResponse}
use Rattle.cedar_authorizer.specs.declared.partial.PartialResponse.TheVariants.{Allow, Deny, Residual}

-- the decision, if it is known
abbrev pub decision_in : PartialResponse → Option meant.Decision
decision_in Allow = Some meant.Allow
decision_in Deny = Some meant.Deny
decision_in (Residual ps) = None

-- this holds of the policies that are left, if it is not decided
abbrev pub IfResidual : (List meant_policies.Policy → Type 0) → PartialResponse → Type 0
IfResidual P (Residual ps) = P (map bare_policy ps.items)
IfResidual P r = ⊤

-- some policies have the response of others wherever more is known than k; R and E are the order and
-- the equality of extension values, and T is a table of functions
abbrev pub RespondLaterAs :
    {X : Type 0} → (X → X → Ordering) → (X → X → Bool) → Functions X → Knowledge X
    → List meant_policies.Policy → List meant_policies.Policy → Type 0
RespondLaterAs {X} R E T k ps qs =
    (C : X → BareCall) (l : Knowledge X) → IsFuller k l → BindsPlainValues C l.bindings
    → authorized R E T l qs ≡ authorized R E T l ps
