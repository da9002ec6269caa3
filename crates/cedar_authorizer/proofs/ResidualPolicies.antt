-- What is left of one policy after others.
use Rattle.std.proofs.Common.{◌≡◌, List, [], ◌∷◌, ◌++◌, map, sym, ◌∙◌}
use Rattle.std.specs.List.{cons_option}
use Rattle.std.proofs.lemmas.List.Elements.{filter_map-append}
use Rattle.cedar_builders.specs.BareExpr.{BareExpr}
use Rattle.semantics_authorize.specs.Policies.{Policy, Verdict}
use Rattle.semantics_authorize.specs.ResidualPolicies.{residual_policies, residual_policy}
use Rattle.cedar_authorizer.specs.PartialResponses.{IfResidual}
use Rattle.cedar_authorizer.specs.Policies.{bare_policy}
use Rattle.cedar_authorizer.specs.declared.partial.PartialResponse.{PartialResponse}
use Rattle.cedar_authorizer.specs.declared.partial.PartialResponse.TheVariants.{Allow, Deny, Residual}

pub residual_more : (J : BareExpr → Verdict) (ps : List Policy) (p : Policy) (v : Verdict)
    (rs new : List Policy) → rs ≡ residual_policies J ps → v ≡ J p.condition
    → new ≡ rs ++ cons_option (residual_policy p v) []
    → new ≡ residual_policies J (ps ++ p ∷ [])
residual_more J ps p v rs new is same one =
    one
    ∙ (λ i. is i ++ cons_option (residual_policy p (same i)) [])
    ∙ sym (filter_map-append (λ q. residual_policy q (J q.condition)) ps (p ∷ []))

-- what holds of the policies that are left, holds if this does
pub residual_so : (P Q : List Policy → Type 0) (r : PartialResponse)
    → ((qs : List Policy) → P qs → Q qs) → IfResidual P r → IfResidual Q r
residual_so P Q Allow so h = tt
residual_so P Q Deny so h = tt
residual_so P Q (Residual ps) so h = so (map bare_policy ps.items) h
