-- Stored functions (`ExtensionFunctionObject` of Cedar's `extension.rs`).
use Rattle.std.specs.Prelude.{ℕ, Bool, nat_eq, nat_le, List, [], ◌∷◌}
use Rattle.cedar_values.specs.declared.value.Value.{Value}
use Rattle.cedar_calls.specs.OutputValues.{Answer}
use Rattle.cedar_calls.specs.declared.object.ExtensionFunctionObject.{ExtensionFunctionObject}
use Rattle.cedar_calls.specs.declared.object.ExtensionFunctionObject.TheVariants.{Nullary, PartialEvalUnknown, Unary, Binary, Ternary, Variadic}

-- how many arguments a function takes
pub data Counts : Type 0 where
  exactly : ℕ → Counts
  at_least : ℕ → Counts

-- whether this many are taken
abbrev pub takes : Counts → ℕ → Bool
takes (exactly n) k = nat_eq k n
takes (at_least n) k = nat_le n k

-- the count that a refusal names
abbrev pub expected_count : Counts → ℕ
expected_count (exactly n) = n
expected_count (at_least n) = n

module _ {X N U B T V : Type 0} where
  -- how many arguments a stored function takes
  abbrev pub counts : ExtensionFunctionObject X N U B T V → Counts
  counts (Nullary f) = exactly 0
  counts (PartialEvalUnknown f) = at_least 1
  counts (Unary f) = exactly 1
  counts (Binary f) = exactly 2
  counts (Ternary f) = exactly 3
  counts (Variadic f) = at_least 2

-- what functions of each count may answer is given by their types
module _ {X N U B T V : Type 0} (nullary : N → Answer X → Type 0) (unary : U → Value X → Answer X → Type 0) (binary : B → Value X → Value X → Answer X → Type 0) (ternary : T → Value X → Value X → Value X → Answer X → Type 0) (variadic : V → Value X → List (Value X) → Answer X → Type 0) where
  -- a stored function may give this answer to these arguments, in their order: to the first alone,
  -- or to the first and the list of the others
  abbrev pub MayGive : ExtensionFunctionObject X N U B T V → List (Value X) → Answer X → Type 0
  MayGive (Nullary f) [] r = nullary f r
  MayGive (PartialEvalUnknown f) (x ∷ xs) r = unary f x r
  MayGive (Unary f) (x ∷ []) r = unary f x r
  MayGive (Binary f) (x ∷ y ∷ []) r = binary f x y r
  MayGive (Ternary f) (x ∷ y ∷ z ∷ []) r = ternary f x y z r
  MayGive (Variadic f) (x ∷ y ∷ ys) r = variadic f x (y ∷ ys) r
  MayGive f xs r = ⊥
