-- What functions of extensions answer (`ExtensionOutputValue` of Cedar's `extension.rs`).
use Rattle.std.specs.Prelude.{◌≡◌, Result}
use Rattle.cedar_terms.specs.Unknowns.{bare_unknown, unknown_place}
use Rattle.cedar_values.specs.BareValues.{bare_value, kind_of, value_place}
use Rattle.cedar_values.specs.Kinds.{IsCopy}
use Rattle.cedar_calls.specs.declared.err.EvaluationError.{EvaluationError}
use Rattle.cedar_calls.specs.declared.output_value.ExtensionOutputValue.{ExtensionOutputValue}
use Rattle.cedar_calls.specs.declared.output_value.ExtensionOutputValue.TheVariants.{Known, Unknown}

-- what a stored function answers: such an output value, or why there is none
abbrev pub Answer : Type 0 → Type 0
Answer X = Result (ExtensionOutputValue X) EvaluationError

-- the same, with all places
abbrev pub IsOutputCopy : {X : Type 0} → ExtensionOutputValue X → ExtensionOutputValue X → Type 0
IsOutputCopy (Known v) (Known w) =
    (bare_value w ≡ bare_value v) × (value_place w ≡ value_place v)
    × IsCopy (kind_of v) (kind_of w)
IsOutputCopy (Unknown u) (Unknown w) =
    (bare_unknown w ≡ bare_unknown u) × (unknown_place w ≡ unknown_place u)
IsOutputCopy o p = ⊥
