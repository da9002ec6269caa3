-- Calls of functions (`ExtensionFunction::call` of Cedar's `extension.rs`).
use Rattle.std.specs.Prelude.{[], ◌≡◌, ⊤, ℕ, None, Result, Ok, Err}
use Rattle.cedar_names.specs.Names.{BareName}
use Rattle.cedar_names.specs.PlainNames.{bare_name}
use Rattle.cedar_terms.specs.Unknowns.{bare_unknown}
use Rattle.cedar_exprs.specs.BareExpr.{unknown_tree}
use Rattle.cedar_exprs.specs.MadeNode.{IsPlain}
use Rattle.cedar_values.specs.declared.partial_value.PartialValue.{PartialValue}
use Rattle.cedar_values.specs.declared.partial_value.PartialValue.TheVariants as partials
use Rattle.cedar_calls.specs.OutputValues.{Answer}
use Rattle.cedar_calls.specs.declared.err.EvaluationError.{EvaluationError}
use Rattle.cedar_calls.specs.declared.err.EvaluationError.TheVariants.{WrongNumArguments, Function, Memory}
use Rattle.cedar_calls.specs.declared.output_value.ExtensionOutputValue.TheVariants.{Known, Unknown}

-- what a call answers where the stored function gives this answer: the value itself, the unknown as
-- a residual at no place, the error itself
abbrev pub IsPassedOn : {X : Type 0} → Answer X → Result (PartialValue X) EvaluationError → Type 0
IsPassedOn (Ok (Known v)) (Ok (partials.Value w)) = w ≡ v
IsPassedOn (Ok (Unknown u)) (Ok (partials.Residual e)) = IsPlain (unknown_tree (bare_unknown u)) [] e
IsPassedOn (Err e) (Err f) = f ≡ e
IsPassedOn answer result = ⊥

-- the refusal of a count of arguments at no place, or there is no memory for the name in it
abbrev pub IsWrongCount : BareName → ℕ → ℕ → EvaluationError → Type 0
IsWrongCount name expected actual (WrongNumArguments n e a loc) =
    (bare_name n ≡ name) × (e ≡ expected) × (a ≡ actual) × (loc ≡ None)
IsWrongCount name expected actual Memory = ⊤
IsWrongCount name expected actual (Function n message) = ⊥
