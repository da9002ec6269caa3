-- Integers of 64 bits, as values.
use Rattle.std.specs.Prelude.{ℤ, pos, neg_ℤ, ◌^◌, Bool, ◌&&◌, int_le, int_lt, Result, Ok, Err, if◌then◌else◌}
use Rattle.cedar_terms.specs.Literals.{LongLit}
use Rattle.semantics_values.specs.BareValue.{BareValue, LitValue, ExtensionValue}
use Rattle.semantics_eval.specs.Outcomes.{Mistake, WrongType, Overflow, Store, truth}

-- whether 64 bits hold an integer
abbrev pub is_long : ℤ → Bool
is_long n = int_le (neg_ℤ (pos (2 ^ 63))) n && int_lt n (pos (2 ^ 63))

-- the integer as a value, where 64 bits hold it
abbrev pub long : {X : Type 0} → ℤ → Result (BareValue X) Mistake
long n = if is_long n then Ok (LitValue (LongLit n)) else Err Overflow

-- an operation on two integers
abbrev pub on_longs :
    {X : Type 0} → (ℤ → ℤ → Result (BareValue X) Mistake) → BareValue X → BareValue X
    → Result (BareValue X) Mistake
on_longs f (LitValue (LongLit m)) (LitValue (LongLit n)) = f m n
on_longs f t u = Err WrongType

-- a comparison of two integers; that of two extension values is left to who knows their types
abbrev pub compared :
    {X : Type 0} → (ℤ → ℤ → Bool) → BareValue X → BareValue X → Result (BareValue X) Mistake
compared f (ExtensionValue x c) (ExtensionValue y d) = Err Store
compared f t u = on_longs (λ m n. Ok (truth (f m n))) t u
