-- Answers that are numbers.
use Rattle.std.specs.Prelude.{◌≡◌, ℤ, Ok, Err}
use Rattle.cedar_terms.specs.Literals.{LongLit}
use Rattle.semantics_values.specs.BareValue.{LitValue}
use Rattle.cedar_values.specs.BareValues.{bare_value}
use Rattle.cedar_values.specs.declared.partial_value.PartialValue.{PartialValue}
use Rattle.cedar_values.specs.declared.partial_value.PartialValue.TheVariants as partials
use Rattle.cedar_calls.specs.OutputValues.{Answer}
use Rattle.cedar_calls.specs.declared.output_value.ExtensionOutputValue.TheVariants.{Known, Unknown}

-- a function answers this number
abbrev pub AnswersNumber : {X : Type 0} → ℤ → Answer X → Type 0
AnswersNumber n (Ok (Known v)) = bare_value v ≡ LitValue (LongLit n)
AnswersNumber n (Ok (Unknown u)) = ⊥
AnswersNumber n (Err e) = ⊥

-- what a call hands on is this number
abbrev pub IsNumber : {X : Type 0} → ℤ → PartialValue X → Type 0
IsNumber n (partials.Value v) = bare_value v ≡ LitValue (LongLit n)
IsNumber n (partials.Residual e) = ⊥
