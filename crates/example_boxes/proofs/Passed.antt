-- What a call hands on of an answer.
use Rattle.std.proofs.Common.{◌≡◌, ℤ, Result, Ok, Err, MatchResult}
use Rattle.cedar_values.specs.declared.partial_value.PartialValue.{PartialValue}
use Rattle.cedar_values.specs.declared.partial_value.PartialValue.TheVariants as partials
use Rattle.cedar_calls.specs.Calls.{IsPassedOn}
use Rattle.cedar_calls.specs.OutputValues.{Answer}
use Rattle.cedar_calls.specs.declared.err.EvaluationError.{EvaluationError}
use Rattle.cedar_calls.specs.declared.err.EvaluationError.TheVariants.{Memory}
use Rattle.cedar_calls.specs.declared.output_value.ExtensionOutputValue.TheVariants.{Known, Unknown}
use Rattle.example_boxes.specs.Numbers.{AnswersNumber, IsNumber}

-- a number that was answered
pub passed_number : {X : Type 0} (n : ℤ) (r : Answer X) (result : Result (PartialValue X) EvaluationError)
    → AnswersNumber n r → IsPassedOn r result → MatchResult result (IsNumber n) (λ e. e ≡ Memory)
passed_number n (Ok (Known v)) (Ok (partials.Value w)) is same = cc
passed_number n (Ok (Known v)) (Ok (partials.Residual e)) is same = absurd same
passed_number n (Ok (Known v)) (Err e) is same = absurd same
passed_number n (Ok (Unknown u)) result is same = absurd is
passed_number n (Err e) result is same = absurd is
