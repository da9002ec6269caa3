-- The laws of the evaluator, over the definitions alone.
use Rattle.std.specs.Prelude.{◌≡◌, ◌≢◌, Bool, true, false, IsTrue, is_some, List, Ok, Err}
use Rattle.std.specs.List.{list_all}
use Rattle.std.specs.declared.cmp.Ordering.{Ordering}
use Rattle.std.specs.declared.cmp.Ordering.TheVariants.{Equal}
use Rattle.cedar_sorted_slices.specs.Classes.{IsClassesOf}
use Rattle.cedar_builders.specs.BareExpr.{BareExpr, Var, Slot, Unknown}
use Rattle.cedar_builders.specs.Environment.{Env, empty, fold}
use Rattle.cedar_builders.specs.Laws.{both}
use Rattle.cedar_builders.specs.Walks.{preorder}
use Rattle.semantics_values.specs.BareValue.{BareCall, BareValue, values_of}
use Rattle.semantics_values.specs.ValueOrder.{value_cmp}
use Rattle.semantics_values.specs.WellFormed.{is_well_formed}
use Rattle.semantics_values.specs.ValueExpr.{value_expr, has_extension, any_has_extension}
use Rattle.semantics_values.specs.Laws.{BindsPlainValues}
use Rattle.semantics_eval.specs.Outcomes.{Open}
use Rattle.semantics_eval.specs.Rows.{ascending_list}
use Rattle.semantics_eval.specs.Evaluator.{evaluator_ops}

-- whether a node is no variable and no slot, and no unknown that is not bound
abbrev pub is_closed_node : Env → BareExpr → Bool
is_closed_node env (Var v) = false
is_closed_node env (Slot s) = false
is_closed_node env (Unknown n t) = is_some (env n)
is_closed_node env e = true

-- whether every unknown is bound, and nothing is a variable or a slot
abbrev pub is_closed : Env → BareExpr → Bool
is_closed env e = list_all (is_closed_node env) (preorder e)

-- C says the canonical call of an extension value; R and E are the order and the equality of these
module _ {X : Type 0} (R : X → X → Ordering) (E : X → X → Bool) where
  -- the expression of a well formed value without extension values has that value as its outcome
  abbrev pub ValueKept : Type 0
  ValueKept =
      (C : X → BareCall) (t : BareValue X) → IsTrue (is_well_formed R t) → has_extension t ≡ false
      → fold (evaluator_ops R E) empty (value_expr C t) ≡ Ok (Ok t)

  -- an outcome that is not open, or a call that is refused, is the same where a further environment
  -- binds such values too
  abbrev pub DecidedStays : Type 0
  DecidedStays =
      (C : X → BareCall) (env1 env2 : Env) → BindsPlainValues C env2 → (e : BareExpr)
      → fold (evaluator_ops R E) env1 e ≢ Ok (Err Open)
      → fold (evaluator_ops R E) (both env1 env2) e ≡ fold (evaluator_ops R E) env1 e

  -- where each unknown is bound to such a value, and no position is a variable or a slot, the
  -- outcome is not open
  abbrev pub NeverOpen : Type 0
  NeverOpen =
      (C : X → BareCall) (env : Env) → BindsPlainValues C env → (e : BareExpr)
      → IsTrue (is_closed env e) → fold (evaluator_ops R E) env e ≢ Ok (Err Open)

-- values without extension values are one where neither stands before the other
abbrev pub PlainIsExact : {X : Type 0} → (X → X → Ordering) → Type 0
PlainIsExact {X} R =
    (t u : BareValue X) → has_extension t ≡ false → has_extension u ≡ false
    → value_cmp R t u ≡ Equal → t ≡ u

-- so there is one strictly ascending list of their classes
abbrev pub IsOneList : {X : Type 0} → (X → X → Ordering) → Type 0
IsOneList {X} R =
    (ts us : List (BareValue X)) → any_has_extension (values_of us) ≡ false
    → IsClassesOf (value_cmp R) ts us → ts ≡ ascending_list (value_cmp R) us

-- values that are inserted one by one make a strictly ascending list with their classes
abbrev pub IsAscendingList : {X : Type 0} → (X → X → Ordering) → Type 0
IsAscendingList {X} R =
    (us : List (BareValue X)) → IsClassesOf (value_cmp R) (ascending_list (value_cmp R) us) us
