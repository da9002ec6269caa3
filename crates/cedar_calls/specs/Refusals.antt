-- Functions that refuse each call.
use Rattle.std.specs.Prelude.{◌≡◌, ⊤, Ok, Err}
use Rattle.std.specs.Rc.{rc_str_bytes}
use Rattle.cedar_names.specs.PlainNames.{bare_name}
use Rattle.cedar_calls.specs.OutputValues.{Answer}
use Rattle.cedar_calls.specs.declared.err.EvaluationError.{EvaluationError}
use Rattle.cedar_calls.specs.declared.err.EvaluationError.TheVariants.{WrongNumArguments, Function, Memory}
use Rattle.cedar_calls.specs.declared.no_function.Refuser.{Refuser}

-- an error with its name and its message, or there is no memory for them
abbrev pub IsRefusalOf : {T : Type 0} → Refuser T → EvaluationError → Type 0
IsRefusalOf f (Function n message) =
    (bare_name n ≡ bare_name f.name) × (rc_str_bytes message ≡ rc_str_bytes f.message)
IsRefusalOf f (WrongNumArguments n e a loc) = ⊥
IsRefusalOf f Memory = ⊤

-- the answer is such an error
abbrev pub Refuses : {T X : Type 0} → Refuser T → Answer X → Type 0
Refuses f (Ok o) = ⊥
Refuses f (Err e) = IsRefusalOf f e
