-- The response to a request, over a list of policies.
use Rattle.std.specs.Prelude.{Bool, List, map}
use Rattle.std.specs.declared.cmp.Ordering.{Ordering}
use Rattle.cedar_builders.specs.BareExpr.{BareExpr}
use Rattle.semantics_request.specs.Requests.{Functions, Knowledge}
use Rattle.semantics_request.specs.Evaluator.{evaluated}
use Rattle.semantics_authorize.specs.Policies.{Policy, Verdict, verdict}
use Rattle.semantics_authorize.specs.Decisions.{EvaluatedPolicy, Response, response}

-- a policy, where J says what a condition comes to
abbrev pub evaluated_by : (BareExpr → Verdict) → Policy → EvaluatedPolicy
evaluated_by J p = record { id = p.id; effect = p.effect; verdict = J p.condition }

-- a policy with another condition
abbrev pub with_condition : (BareExpr → BareExpr) → Policy → Policy
with_condition change p = record p { condition = change p.condition }

-- R and E are the order and the equality of extension values, and T is a table of functions
module _ {X : Type 0} (R : X → X → Ordering) (E : X → X → Bool) (T : Functions X) where
  -- the policies, by what is known
  abbrev pub evaluated_policies : Knowledge X → List Policy → List EvaluatedPolicy
  evaluated_policies k = map (evaluated_by (λ e. verdict (evaluated R E T k e)))

  -- the response
  abbrev pub authorized : Knowledge X → List Policy → Response
  authorized k ps = response (evaluated_policies k ps)
