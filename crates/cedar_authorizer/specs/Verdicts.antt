-- What a policy's verdict and its error mean.
use Rattle.cedar_evaluator.specs.Outcomes.{fault_in}
use Rattle.cedar_evaluator.specs.declared.fault.EvaluationFault.{EvaluationFault}
use Rattle.cedar_request_evaluator.specs.Refusals.{refused_name}
use Rattle.semantics_authorize.specs.Policies as meant
use Rattle.cedar_authorizer.specs.Mistakes.{mistake_of}
use Rattle.cedar_authorizer.specs.declared.fault.ConditionFault.{ConditionFault}
use Rattle.cedar_authorizer.specs.declared.fault.PolicyError.{PolicyError}
use Rattle.cedar_authorizer.specs.declared.fault.PolicyError.TheVariants.{Mistaken, Refused}
use Rattle.cedar_authorizer.specs.declared.verdict.Verdict.{Verdict}
use Rattle.cedar_authorizer.specs.declared.verdict.Verdict.TheVariants.{Satisfied, Unsatisfied, Failed, Undecided}

-- the fault of a condition
abbrev pub fault_of : ConditionFault → EvaluationFault
fault_of f = f.fault

-- why a policy has an error
abbrev pub bare_error : PolicyError → meant.PolicyError
bare_error (Mistaken f) = meant.Mistaken (mistake_of (fault_in (fault_of f)))
bare_error (Refused r) = meant.Refused (refused_name r)

-- what a condition comes to
abbrev pub bare_verdict : Verdict → meant.Verdict
bare_verdict Satisfied = meant.Satisfied
bare_verdict Unsatisfied = meant.Unsatisfied
bare_verdict (Failed e) = meant.Failed (bare_error e)
bare_verdict Undecided = meant.Undecided
