-- Responses worked out by hand, to requests whose outcomes are worked out in `semantics_request`.
use Rattle.std.specs.Prelude.{◌≡◌, pos, Bool, true, false, List, [], ◌∷◌, Option, Some, None, codes}
use Rattle.std.specs.declared.cmp.Ordering.{Ordering}
use Rattle.cedar_names.specs.Names.{unqualified}
use Rattle.cedar_terms.specs.Entities.{BareEntityUID}
use Rattle.cedar_terms.specs.declared.ops.BinaryOp.TheVariants as Binary
use Rattle.cedar_terms.specs.declared.var.Var.TheVariants as Variable
use Rattle.cedar_builders.specs.BareExpr.{Text, Var, And, BinaryApp, GetAttr}
use Rattle.semantics_eval.specs.Outcomes.{WrongType, Missing}
use Rattle.semantics_request.specs.Worked.{alice, bob, carol, friends, view, e, long, principal, resource, context, within, call_g, table, asks}
use Rattle.semantics_authorize.specs.Policies.{Permit, Forbid, Policy, PolicyError, Mistaken, Refused}
use Rattle.semantics_authorize.specs.Decisions.{Decision, Allow, Deny, Response}
use Rattle.semantics_authorize.specs.Authorization.{authorized}

-- the policies: who is in the group may view; who owns may do all; no one may see what is hidden
abbrev to_friends : Policy
to_friends = record {
  id = codes "to friends";
  effect = Permit;
  condition =
      And (within principal (e friends)) (BinaryApp Binary.Eq (Var Variable.Action) (e view));
}

abbrev to_owner : Policy
to_owner = record {
  id = codes "to owner";
  effect = Permit;
  condition = BinaryApp Binary.Eq (GetAttr resource (codes "owner")) principal;
}

abbrev hidden : Policy
hidden = record {
  id = codes "hidden";
  effect = Forbid;
  condition = GetAttr context (codes "hidden");
}

abbrev no_rating : Policy
no_rating = record {
  id = codes "no rating";
  effect = Permit;
  condition = BinaryApp Binary.Less (long (pos 3)) (GetAttr resource (codes "rating"));
}

abbrev no_truth : Policy
no_truth = record { id = codes "no truth"; effect = Permit; condition = long (pos 1) }

abbrev calls_g : Policy
calls_g = record { id = codes "calls g"; effect = Forbid; condition = call_g }

module _ {X : Type 0} (R : X → X → Ordering) (E : X → X → Bool) where
  abbrev responds : BareEntityUID → Option Bool → List Policy → Response
  responds u h = authorized R E table (asks u h)

  abbrev gives : Option Decision → List Text → List (Text × PolicyError) → Response
  gives d is es = record { decision = d; determining = is; errors = es }

  pub record AreWorkedResponses : Type 0 where
    -- a permit applies, and no forbid
    pub allowed :
        responds alice (Some false) (to_friends ∷ hidden ∷ [])
        ≡ gives (Some Allow) (codes "to friends" ∷ []) []
    pub both_permits :
        responds alice (Some false) (to_friends ∷ to_owner ∷ [])
        ≡ gives (Some Allow) (codes "to friends" ∷ codes "to owner" ∷ []) []
    -- forbid overrides
    pub forbidden :
        responds alice (Some true) (to_friends ∷ hidden ∷ [])
        ≡ gives (Some Deny) (codes "hidden" ∷ []) []
    -- no permit applies; there is no policy
    pub by_default :
        responds carol (Some false) (to_friends ∷ hidden ∷ []) ≡ gives (Some Deny) [] []
    pub no_policy : responds alice (Some false) [] ≡ gives (Some Deny) [] []
    -- a policy that has an error says only that
    pub failed :
        responds alice (Some false) (no_rating ∷ to_owner ∷ [])
        ≡ gives (Some Allow) (codes "to owner" ∷ []) ((codes "no rating", Mistaken Missing) ∷ [])
    pub no_truth :
        responds alice (Some false) (no_truth ∷ to_owner ∷ [])
        ≡ gives (Some Allow) (codes "to owner" ∷ []) ((codes "no truth", Mistaken WrongType) ∷ [])
    pub refused :
        responds alice (Some false) (calls_g ∷ to_owner ∷ [])
        ≡ gives (Some Allow) (codes "to owner" ∷ [])
        ((codes "calls g", Refused (unqualified (codes "g"))) ∷ [])
    -- the context is not known: the forbid may apply; but where no permit does, that is all one
    pub not_yet_known :
        responds alice None (to_friends ∷ hidden ∷ [])
        ≡ gives None (codes "to friends" ∷ []) []
    pub denied_anyway : responds carol None (to_friends ∷ hidden ∷ []) ≡ gives (Some Deny) [] []
    -- nothing is known of bob, who may be a friend; but a forbid applies, or another permit
    pub may_be_friend : responds bob (Some false) (to_friends ∷ []) ≡ gives None [] []
    pub forbidden_anyway :
        responds bob (Some true) (to_friends ∷ hidden ∷ [])
        ≡ gives (Some Deny) (codes "hidden" ∷ []) []
