-- Values and residuals worked out by hand.
use Rattle.std.specs.Prelude.{◌≡◌, ℤ, pos, Bool, true, false, List, [], ◌∷◌, Some, None, codes}
use Rattle.std.specs.declared.cmp.Ordering.{Ordering}
use Rattle.cedar_names.specs.Names.{unqualified}
use Rattle.cedar_terms.specs.Literals.{BoolLit, LongLit}
use Rattle.cedar_terms.specs.Types.{LongType}
use Rattle.cedar_terms.specs.declared.ops.BinaryOp.TheVariants as Binary
use Rattle.cedar_terms.specs.declared.var.Var.TheVariants as Variable
use Rattle.cedar_builders.specs.BareExpr.{BareExpr, Lit, Var, Unknown, If, And, Or, BinaryApp, ExtensionFunctionApp, GetAttr, HasAttr, Set, Record, no_trees, trees_of, no_fields, field}
use Rattle.cedar_builders.specs.Environment.{Env}
use Rattle.semantics_values.specs.BareValue.{BareCall, BareValue, LitValue, SetValue, values_of}
use Rattle.semantics_eval.specs.Outcomes.{truth}
use Rattle.semantics_simplify.specs.Simplified.{Simplified, Known, Residual}
use Rattle.semantics_simplify.specs.Simplifier.{simplified_in, simplified}

abbrev bool : Bool → BareExpr
bool b = Lit (BoolLit b)

abbrev long : ℤ → BareExpr
long n = Lit (LongLit n)

abbrev one : BareExpr
one = long (pos 1)

abbrev two : BareExpr
two = long (pos 2)

abbrev greatest : BareExpr
greatest = long (pos 9223372036854775807)

abbrev set : List BareExpr → BareExpr
set es = Set (trees_of es)

abbrev plus : BareExpr → BareExpr → BareExpr
plus = BinaryApp Binary.Add

abbrev less : BareExpr → BareExpr → BareExpr
less = BinaryApp Binary.Less

-- an unknown, and an environment that binds it to 1
abbrev x : BareExpr
x = Unknown (codes "x") None

abbrev x_is_one : Env
x_is_one n = Some (LongType, one)

-- a call of `f`
abbrev call : BareExpr
call = ExtensionFunctionApp (unqualified (codes "f")) no_trees

-- {b: {a: v}}
abbrev nested : BareExpr → BareExpr
nested v = Record (field (codes "b") (Record (field (codes "a") v no_fields)) no_fields)

module _ {X : Type 0} where
  abbrev is : Bool → Simplified X
  is b = Known (truth b)

  abbrev long_value : ℤ → BareValue X
  long_value n = LitValue (LongLit n)

  abbrev is_long : ℤ → Simplified X
  is_long n = Known (long_value n)

  module _ (R : X → X → Ordering) (E : X → X → Bool) (C : X → BareCall) where
    abbrev made : BareExpr → Simplified X
    made = simplified R E C

    abbrev made_bound : BareExpr → Simplified X
    made_bound = simplified_in R E C x_is_one

    pub record AreWorkedSimplified : Type 0 where
      -- operators
      pub sum : made (plus one one) ≡ is_long (pos 2)
      pub above : made (plus greatest one) ≡ Residual (plus greatest one)
      pub inner_sum : made (plus (plus one one) x) ≡ Residual (plus two x)
      pub bound_sum : made_bound (plus (plus one one) x) ≡ is_long (pos 3)
      pub no_long : made (less one (bool true)) ≡ Residual (less one (bool true))
      pub in_store : made (BinaryApp Binary.In x one) ≡ Residual (BinaryApp Binary.In x one)
      pub variable : made (Var Variable.Principal) ≡ Residual (Var Variable.Principal)
      -- `if`
      pub if_true : made (If (less one two) one x) ≡ is_long (pos 1)
      pub if_false : made (If (less two one) one x) ≡ Residual x
      pub if_call : made (If (less one two) x call) ≡ Residual (If (bool true) x call)
      pub if_called : made (If (bool true) call x) ≡ Residual call
      pub if_no_bool : made (If one one two) ≡ Residual (If one one two)
      pub if_open : made (If x (plus one one) one) ≡ Residual (If x two one)
      -- `and` and `or`
      pub and_false : made (And (bool false) x) ≡ is false
      pub and_call : made (And (bool false) call) ≡ Residual (And (bool false) call)
      pub and_true : made (And (bool true) (less x one)) ≡ Residual (less x one)
      pub and_any : made (And (bool true) x) ≡ Residual (And (bool true) x)
      pub and_no_bool : made (And (bool true) one) ≡ Residual (And (bool true) one)
      pub and_open : made (And x (bool false)) ≡ Residual (And x (bool false))
      pub or_true : made (Or (bool true) x) ≡ is true
      pub or_call : made (Or (bool true) call) ≡ Residual (Or (bool true) call)
      pub or_false : made (Or (bool false) (less x one)) ≡ Residual (less x one)
      pub or_any : made (Or (bool false) x) ≡ Residual (Or (bool false) x)
      -- sets and records
      pub set_ascends :
          made (set (two ∷ one ∷ two ∷ []))
          ≡ Known (SetValue (values_of (long_value (pos 1) ∷ long_value (pos 2) ∷ [])))
      pub set_open : made (set (plus one one ∷ x ∷ one ∷ [])) ≡ Residual (set (two ∷ x ∷ one ∷ []))
      pub set_left :
          made (BinaryApp Binary.Contains (set (two ∷ one ∷ two ∷ [])) x)
          ≡ Residual (BinaryApp Binary.Contains (set (one ∷ two ∷ [])) x)
      pub get : made (GetAttr (GetAttr (nested one) (codes "b")) (codes "a")) ≡ is_long (pos 1)
      pub get_open :
          made (GetAttr (nested x) (codes "b")) ≡ Residual (GetAttr (nested x) (codes "b"))
      pub missing :
          made (GetAttr (nested one) (codes "c")) ≡ Residual (GetAttr (nested one) (codes "c"))
      pub path : made (HasAttr (nested one) (codes "b") (codes "a" ∷ [])) ≡ is true
      pub no_path : made (HasAttr (nested one) (codes "c") []) ≡ is false
      pub path_open :
          made (HasAttr (nested x) (codes "b") []) ≡ Residual (HasAttr (nested x) (codes "b") [])
