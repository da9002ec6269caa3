-- The residual policies of a request: those that may still count when more is known.
use Rattle.std.specs.Prelude.{true, List, Option, Some, None}
use Rattle.std.specs.List.{filter_map}
use Rattle.cedar_terms.specs.Literals.{BoolLit}
use Rattle.cedar_builders.specs.BareExpr.{BareExpr, Lit}
use Rattle.semantics_authorize.specs.Policies.{Policy, Verdict, Satisfied, Unsatisfied, Failed, Undecided}

-- a condition that is true
abbrev pub always : BareExpr
always = Lit (BoolLit true)

-- the residual of a policy, by what its condition comes to: none of one that is false; one that
-- is true applies whatever else comes to be known; one that has an error or is not decided stays
abbrev pub residual_policy : Policy → Verdict → Option Policy
residual_policy p Satisfied = Some (record p { condition = always })
residual_policy p Unsatisfied = None
residual_policy p (Failed f) = Some p
residual_policy p Undecided = Some p

-- the residual policies, where J says what a condition comes to
abbrev pub residual_policies : (BareExpr → Verdict) → List Policy → List Policy
residual_policies J = filter_map (λ p. residual_policy p (J p.condition))
