-- What is decided while not all is known.
use Rattle.std.proofs.Common.{◌≡◌, Bool, List, ap, ◌∙◌, subst}
use Rattle.std.specs.declared.cmp.Ordering.{Ordering}
use Rattle.semantics_policies.specs.Identifiers.{policy_ids}
use Rattle.semantics_policies.specs.Policies.{BarePolicy}
use Rattle.semantics_request.specs.Requests.{Functions, Knowledge}
use Rattle.semantics_authorize.specs.Authorization.{authorized}
use Rattle.semantics_authorize.specs.Policies as meant
use Rattle.cedar_policies.specs.PolicySets.{bare_policies, ids_of}
use Rattle.cedar_policies.specs.declared.policy_set.Policy.{Policy}
use Rattle.cedar_authorizer.specs.PartialResponses.{IfResidual, RespondLaterAs, decision_in}
use Rattle.cedar_authorizer.specs.declared.partial.PartialResponse.{PartialResponse}
use Rattle.cedar_decisions.specs.Decisions.{deciding}
use Rattle.cedar_decisions.specs.Partial.{IsPartlyDecided}
use Rattle.cedar_decisions.specs.Sets.{deciding_in}
use Rattle.cedar_decisions.proofs.Decided.{same_deciding}

module _ {X : Type 0} (R : X → X → Ordering) (E : X → X → Bool) (T : Functions X)
    (k : Knowledge X) where
  -- a response by policies that are named as those of a text
  pub partly_decided : (ps : List Policy) (ds : List meant.Policy) (r : PartialResponse)
      → ids_of ps ≡ policy_ids 0 (bare_policies ps) → ds ≡ deciding_in ps
      → decision_in r ≡ (authorized R E T k ds).decision
      → IfResidual (RespondLaterAs R E T k ds) r → (qs : List BarePolicy) → bare_policies ps ≡ qs
      → IsPartlyDecided R E T k (deciding (policy_ids 0 qs) qs) r
  partly_decided ps ds r ids are decision later qs is =
      let same = are ∙ same_deciding ps qs ids is in
      record {
        decision = decision ∙ ap (λ ds. (authorized R E T k ds).decision) same;
        later = subst (λ ds. IfResidual (RespondLaterAs R E T k ds) r) same later;
      }
