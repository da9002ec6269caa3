-- What answers of calls mean.
use Rattle.std.specs.Prelude.{None, Result}
use Rattle.cedar_terms.specs.Literals.{LongLit}
use Rattle.cedar_builders.specs.Fold.{on_one}
use Rattle.semantics_values.specs.BareValue.{BareValue, LitValue, ExtensionValue}
use Rattle.semantics_eval.specs.Outcomes as meant
use Rattle.cedar_evaluator.specs.Outcomes.{faulted}
use Rattle.cedar_evaluator.specs.declared.fault.EvalFault.{EvalFault}
use Rattle.cedar_functions.specs.declared.answer.Answer.{Answer}
use Rattle.cedar_functions.specs.declared.answer.Answer.TheVariants as Give
use Rattle.cedar_functions.specs.declared.extension.BuiltinExtension.{BuiltinExtension}

-- an extension value, with no representation given for it
abbrev pub extension : BuiltinExtension → BareValue BuiltinExtension
extension x = ExtensionValue x None

-- the value of an answer
abbrev pub answer_value : Answer → BareValue BuiltinExtension
answer_value (Give.Bool b) = meant.truth b
answer_value (Give.Long n) = LitValue (LongLit n)
answer_value (Give.Extension x) = extension x

-- the outcome that an answer or a fault is
abbrev pub answered : Result Answer EvalFault → meant.Outcome BuiltinExtension
answered r = on_one answer_value (faulted r)
