-- Policies (Cedar's `Policy` and `Effect`), and what their conditions come to.
use Rattle.std.specs.Prelude.{Bool, true, false, Option, Some, None, Result, Ok, Err}
use Rattle.cedar_names.specs.Names.{BareName}
use Rattle.cedar_builders.specs.BareExpr.{Text, BareExpr}
use Rattle.semantics_eval.specs.Outcomes.{Mistake, WrongType, Open, By, Outcome, truth_of}

-- what a policy does if its condition is true
pub data Effect : Type 0 where
  Permit Forbid : Effect

-- a policy; the condition is its scope and its clauses as one expression (Cedar's
-- `Policy::condition`)
pub record Policy : Type 0 where
  pub id : Text
  pub effect : Effect
  pub condition : BareExpr

-- why a condition is neither true nor false: a mistake, or a function that is not in the table
pub data PolicyError : Type 0 where
  Mistaken : Mistake → PolicyError
  Refused : BareName → PolicyError

-- what a condition comes to: true, false, an error, or not decided yet
pub data Verdict : Type 0 where
  Satisfied Unsatisfied : Verdict
  Failed : PolicyError → Verdict
  Undecided : Verdict

-- a condition has to be a Boolean
abbrev pub truth_verdict : Option Bool → Verdict
truth_verdict None = Failed (Mistaken WrongType)
truth_verdict (Some true) = Satisfied
truth_verdict (Some false) = Unsatisfied

-- what an outcome says of a condition
abbrev pub verdict : {X : Type 0} → Result (Outcome X) BareName → Verdict
verdict (Ok (Ok t)) = truth_verdict (truth_of t)
verdict (Ok (Err Open)) = Undecided
verdict (Ok (Err (By m))) = Failed (Mistaken m)
verdict (Err n) = Failed (Refused n)
