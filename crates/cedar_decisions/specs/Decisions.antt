-- The response to a request, by the policies that a text stands for.
use Rattle.std.specs.Prelude.{◌≡◌, ℕ, Bool, List, [], ◌∷◌, ◌++◌, IsTrue, if◌then◌else◌}
use Rattle.std.specs.declared.cmp.Ordering.{Ordering}
use Rattle.cedar_builders.specs.BareExpr.{Text}
use Rattle.cedar_builders.specs.Keys.{are_distinct}
use Rattle.semantics_policies.specs.Conditions.{condition}
use Rattle.semantics_policies.specs.Identifiers.{policy_ids}
use Rattle.semantics_policies.specs.Linking.{is_template}
use Rattle.semantics_policies.specs.Policies as texts
use Rattle.semantics_request.specs.Requests.{Functions, Knowledge}
use Rattle.semantics_authorize.specs.Authorization.{authorized}
use Rattle.semantics_authorize.specs.Decisions.{Response}
use Rattle.semantics_authorize.specs.Policies.{Effect, Permit, Forbid, Policy}
use Rattle.cedar_policy_parser.specs.Streams.{ArePoliciesOf}

-- what a policy does if its condition is true
abbrev pub effect_of : texts.Effect → Effect
effect_of texts.permit = Permit
effect_of texts.forbid = Forbid

-- a policy as it decides: its identifier, its effect, and its condition
abbrev pub policy_of : Text → texts.BarePolicy → Policy
policy_of i p = record { id = i; effect = effect_of p.effect; condition = condition p }

-- the same, if it decides: a template does not, until its slots are filled
abbrev pub if_deciding : Text → texts.BarePolicy → List Policy
if_deciding i p = if is_template p then [] else policy_of i p ∷ []

-- those that decide of policies with these identifiers
abbrev pub deciding : List Text → List texts.BarePolicy → List Policy
deciding [] ps = []
deciding (i ∷ is) [] = []
deciding (i ∷ is) (p ∷ ps) = if_deciding i p ++ deciding is ps

-- this holds of those that decide, whatever policies the text stands for, if no two have the same
-- identifier
abbrev pub IfPolicies : List ℕ → (List Policy → Type 0) → Type 0
IfPolicies text P = (ps : List texts.BarePolicy) → ArePoliciesOf text ps
    → IsTrue (are_distinct (policy_ids 0 ps)) → P (deciding (policy_ids 0 ps) ps)

-- R and E are the order and the equality of extension values, T is a table of functions, and k is
-- what is known
module _ {X : Type 0} (R : X → X → Ordering) (E : X → X → Bool) (T : Functions X)
    (k : Knowledge X) where
  -- the text stands for policies, of which no two have the same identifier, and this is the
  -- response by those that decide
  pub record IsDecidedBy (text : List ℕ) (r : Response) : Type 0 where
    pub policies : List texts.BarePolicy
    pub stand : ArePoliciesOf text policies
    pub distinct : IsTrue (are_distinct (policy_ids 0 policies))
    pub response : r ≡ authorized R E T k (deciding (policy_ids 0 policies) policies)
