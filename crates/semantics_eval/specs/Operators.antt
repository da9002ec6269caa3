-- The operators on values.
use Rattle.std.specs.Prelude.{Bool, true, false, not, neg_ℤ, ◌+ℤ◌, ◌-ℤ◌, ◌*ℤ◌, int_lt, int_le, List, Result, Ok, Err}
use Rattle.std.specs.List.{list_all, list_any}
use Rattle.std.specs.declared.cmp.Ordering.{Ordering}
use Rattle.cedar_sorted_slices.specs.Classes.{has_class}
use Rattle.cedar_terms.specs.Literals.{BoolLit, LongLit}
use Rattle.cedar_terms.specs.declared.ops.UnaryOp.{UnaryOp}
use Rattle.cedar_terms.specs.declared.ops.UnaryOp.TheVariants as Unary
use Rattle.cedar_terms.specs.declared.ops.BinaryOp.{BinaryOp}
use Rattle.cedar_terms.specs.declared.ops.BinaryOp.TheVariants as Binary
use Rattle.semantics_values.specs.BareValue.{BareValue, LitValue, SetValue, BareValues, no_values, value, list_of}
use Rattle.semantics_values.specs.ValueOrder.{value_cmp, value_eq}
use Rattle.semantics_eval.specs.Outcomes.{Mistake, WrongType, Store, truth}
use Rattle.semantics_eval.specs.Longs.{long, on_longs, compared}

-- whether a set has no member
abbrev pub has_no_member : {X : Type 0} → BareValues X → Bool
has_no_member no_values = true
has_no_member (value t ts) = false

-- an operator on a value
abbrev pub apply_one : {X : Type 0} → UnaryOp → BareValue X → Result (BareValue X) Mistake
apply_one Unary.Not (LitValue (BoolLit b)) = Ok (truth (not b))
apply_one Unary.Neg (LitValue (LongLit n)) = long (neg_ℤ n)
apply_one Unary.IsEmpty (SetValue ts) = Ok (truth (has_no_member ts))
apply_one o t = Err WrongType

-- a test of a set, by its list of members
abbrev pub on_set :
    {X : Type 0} → (List (BareValue X) → Bool) → BareValue X → Result (BareValue X) Mistake
on_set f (SetValue ts) = Ok (truth (f (list_of ts)))
on_set f t = Err WrongType

-- a test of two sets
abbrev pub on_sets :
    {X : Type 0} → (List (BareValue X) → List (BareValue X) → Bool) → BareValue X → BareValue X
    → Result (BareValue X) Mistake
on_sets f (SetValue ts) u = on_set (f (list_of ts)) u
on_sets f t u = Err WrongType

-- R and E are the order and the equality of extension values
module _ {X : Type 0} (R : X → X → Ordering) (E : X → X → Bool) where
  -- whether a set has a value that is the same
  abbrev pub has_member : List (BareValue X) → BareValue X → Bool
  has_member = has_class (value_cmp R)

  -- an operator on two values
  abbrev pub apply_two : BinaryOp → BareValue X → BareValue X → Result (BareValue X) Mistake
  apply_two Binary.Eq t u = Ok (truth (value_eq E t u))
  apply_two Binary.Less t u = compared int_lt t u
  apply_two Binary.LessEq t u = compared int_le t u
  apply_two Binary.Add t u = on_longs (λ m n. long (m +ℤ n)) t u
  apply_two Binary.Sub t u = on_longs (λ m n. long (m -ℤ n)) t u
  apply_two Binary.Mul t u = on_longs (λ m n. long (m *ℤ n)) t u
  apply_two Binary.In t u = Err Store
  apply_two Binary.Contains t u = on_set (λ ts. has_member ts u) t
  apply_two Binary.ContainsAll t u = on_sets (λ ts us. list_all (has_member ts) us) t u
  apply_two Binary.ContainsAny t u = on_sets (λ ts us. list_any (has_member ts) us) t u
  apply_two Binary.GetTag t u = Err Store
  apply_two Binary.HasTag t u = Err Store
