-- What is decided while not all is known, by the policies that a text stands for.
use Rattle.std.specs.Prelude.{◌≡◌, ℕ, Bool, List, IsTrue}
use Rattle.std.specs.declared.cmp.Ordering.{Ordering}
use Rattle.cedar_builders.specs.Keys.{are_distinct}
use Rattle.semantics_policies.specs.Identifiers.{policy_ids}
use Rattle.semantics_policies.specs.Policies.{BarePolicy}
use Rattle.semantics_request.specs.Requests.{Functions, Knowledge}
use Rattle.semantics_authorize.specs.Authorization.{authorized}
use Rattle.semantics_authorize.specs.Policies.{Policy}
use Rattle.cedar_policy_parser.specs.Streams.{ArePoliciesOf}
use Rattle.cedar_authorizer.specs.PartialResponses.{IfResidual, RespondLaterAs, decision_in}
use Rattle.cedar_authorizer.specs.declared.partial.PartialResponse.{PartialResponse}
use Rattle.cedar_decisions.specs.Decisions.{deciding}

-- R and E are the order and the equality of extension values, T is a table of functions, and k is
-- what is known
module _ {X : Type 0} (R : X → X → Ordering) (E : X → X → Bool) (T : Functions X)
    (k : Knowledge X) where
  -- this is the decision by these policies, if it is known, and else the residual policies have
  -- their response wherever more is known
  pub record IsPartlyDecided (ps : List Policy) (r : PartialResponse) : Type 0 where
    pub decision : decision_in r ≡ (authorized R E T k ps).decision
    pub later : IfResidual (RespondLaterAs R E T k ps) r

  -- the text stands for policies, of which no two have the same identifier, and this is what is
  -- decided by those that decide
  pub record IsPartlyDecidedBy (text : List ℕ) (r : PartialResponse) : Type 0 where
    pub policies : List BarePolicy
    pub stand : ArePoliciesOf text policies
    pub distinct : IsTrue (are_distinct (policy_ids 0 policies))
    pub decided : IsPartlyDecided (deciding (policy_ids 0 policies) policies) r
