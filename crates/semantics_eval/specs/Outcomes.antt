-- What an evaluation gives: a value, or why there is none.
use Rattle.std.specs.Prelude.{Bool, true, false, Option, Some, None, Result, Ok, Err}
use Rattle.cedar_terms.specs.Literals.{BoolLit}
use Rattle.cedar_builders.specs.Fold.{and_then}
use Rattle.semantics_values.specs.BareValue.{BareValue, LitValue}

-- a fault that no binding takes away: a value of the wrong type, a result outside 64 bits, a key
-- that a record lacks, or a question that only the store of entities, or who knows the types of
-- extension values, could answer
pub data Mistake : Type 0 where
  WrongType Overflow Missing Store : Mistake

-- a fault: a part that is not known yet, or a mistake
pub data Fault : Type 0 where
  Open : Fault
  By : Mistake → Fault

-- a value or a fault
abbrev pub Outcome : Type 0 → Type 0
Outcome X = Result (BareValue X) Fault

-- a value or a mistake, as an outcome
abbrev pub settled : {X : Type 0} → Result (BareValue X) Mistake → Outcome X
settled (Ok t) = Ok t
settled (Err m) = Err (By m)

-- a Boolean as a value
abbrev pub truth : {X : Type 0} → Bool → BareValue X
truth b = LitValue (BoolLit b)

-- the Boolean that a value is, if it is one
abbrev pub truth_of : {X : Type 0} → BareValue X → Option Bool
truth_of (LitValue (BoolLit b)) = Some b
truth_of t = None

-- an operation on a value: a fault in its place answers
abbrev pub strict :
    {X : Type 0} → (BareValue X → Result (BareValue X) Mistake) → Outcome X → Outcome X
strict f = and_then (λ t. settled (f t))

-- an operation on two values: the first fault in their place answers
abbrev pub strict_two :
    {X : Type 0} → (BareValue X → BareValue X → Result (BareValue X) Mistake)
    → Outcome X → Outcome X → Outcome X
strict_two f m n = and_then (λ t. strict (f t) n) m

-- the outcome of the branch that a test chooses
abbrev pub chosen : {X : Type 0} → Option Bool → Outcome X → Outcome X → Outcome X
chosen None m n = Err (By WrongType)
chosen (Some true) m n = m
chosen (Some false) m n = n

-- `if`: a fault of the test, else the outcome of the chosen branch
abbrev pub if_outcome : {X : Type 0} → Outcome X → Outcome X → Outcome X → Outcome X
if_outcome test m n = and_then (λ t. chosen (truth_of t) m n) test

-- a value that has to be a Boolean
abbrev pub as_truth : {X : Type 0} → BareValue X → Result (BareValue X) Mistake
as_truth (LitValue (BoolLit b)) = Ok (truth b)
as_truth t = Err WrongType

-- `and`: false where the left is false, else the right
abbrev pub and_outcome : {X : Type 0} → Outcome X → Outcome X → Outcome X
and_outcome m n = if_outcome m (strict as_truth n) (Ok (truth false))

-- `or`: true where the left is true, else the right
abbrev pub or_outcome : {X : Type 0} → Outcome X → Outcome X → Outcome X
or_outcome m n = if_outcome m (Ok (truth true)) (strict as_truth n)
