-- The laws of the simplifier, over the definitions alone.
use Rattle.std.specs.Prelude.{◌≡◌, Bool, false, ◌&&◌, IsTrue, Ok}
use Rattle.std.specs.List.{list_all}
use Rattle.std.specs.declared.cmp.Ordering.{Ordering}
use Rattle.cedar_builders.specs.BareExpr.{BareExpr}
use Rattle.cedar_builders.specs.Environment.{Env, empty, fold}
use Rattle.cedar_builders.specs.Laws.{both}
use Rattle.cedar_builders.specs.Trees.{tree_ops, sure}
use Rattle.cedar_builders.specs.Walks.{children}
use Rattle.semantics_values.specs.BareValue.{BareCall, BareValue}
use Rattle.semantics_values.specs.ValueExpr.{value_expr, has_extension}
use Rattle.semantics_values.specs.WellFormed.{is_well_formed}
use Rattle.semantics_values.specs.Laws.{BindsPlainValues}
use Rattle.semantics_eval.specs.Evaluator.{evaluator_ops}
use Rattle.semantics_eval.specs.Laws.{is_closed}
use Rattle.semantics_simplify.specs.Asks.{Ask, passes, asks_only, is_bound_or, holds_no_call}
use Rattle.semantics_simplify.specs.Simplified.{Known, tree_of}
use Rattle.semantics_simplify.specs.Simplifier.{simplifier_ops, simplified_in, simplified}

-- R and E are the order and the equality of extension values
module _ {X : Type 0} (R : X → X → Ordering) (E : X → X → Bool) where
  -- wherever unknowns are bound to values without extension values, the simplified tree has the
  -- outcome of the tree, or is refused by the same name
  abbrev pub MeansTheSame : Type 0
  MeansTheSame =
      (C : X → BareCall) (env : Env) → BindsPlainValues C env → (e : BareExpr)
      → fold (evaluator_ops R E) env (tree_of C (simplified R E C e))
      ≡ fold (evaluator_ops R E) env e

  -- to put values for some unknowns, to simplify, and to evaluate with values for further ones is
  -- to evaluate with both
  abbrev pub PartialIsSound : Type 0
  PartialIsSound =
      (C : X → BareCall) (env1 env2 : Env) → BindsPlainValues C env1 → BindsPlainValues C env2
      → (e : BareExpr)
      → fold (evaluator_ops R E) env2 (tree_of C (simplified R E C (sure (fold tree_ops env1 e))))
      ≡ fold (evaluator_ops R E) (both env1 env2) e

  -- to simplify with values for some unknowns is to put them and then to simplify
  abbrev pub IsOnePass : Type 0
  IsOnePass =
      (C : X → BareCall) (env : Env) (e : BareExpr)
      → simplified R E C (sure (fold tree_ops env e)) ≡ simplified_in R E C env e

  -- a value that is known with values for some unknowns is the outcome, whatever values are bound
  -- to further ones
  abbrev pub KnownStays : Type 0
  KnownStays =
      (C : X → BareCall) (env1 env2 : Env) → BindsPlainValues C env1 → BindsPlainValues C env2
      → (e : BareExpr) (t : BareValue X) → simplified_in R E C env1 e ≡ Known t
      → fold (evaluator_ops R E) (both env1 env2) e ≡ Ok (Ok t)

  -- where each unknown is bound to such a value, no position is a variable, a slot or a call, and
  -- the outcome is a value, that value is known
  abbrev pub ClosedIsKnown : Type 0
  ClosedIsKnown =
      (C : X → BareCall) (env : Env) → BindsPlainValues C env → (e : BareExpr)
      → IsTrue (is_closed env e) → IsTrue (holds_no_call e)
      → (t : BareValue X) → fold (evaluator_ops R E) env e ≡ Ok (Ok t)
      → simplified_in R E C env e ≡ Known t

  -- the expression of a well formed value without extension values is made that value, known
  abbrev pub ValueKnown : Type 0
  ValueKnown =
      (C : X → BareCall) (t : BareValue X) → IsTrue (is_well_formed R t) → has_extension t ≡ false
      → fold (simplifier_ops R E C) empty (value_expr C t) ≡ Ok (Known t)

  -- where unknowns are bound to such values, the simplified tree asks only for what the tree asks
  -- for, and for no unknown that is bound
  abbrev pub AsksNoMore : Type 0
  AsksNoMore =
      (C : X → BareCall) (env : Env) → BindsPlainValues C env → (Q : Ask → Bool) (e : BareExpr)
      → IsTrue (asks_only (is_bound_or env Q) e)
      → IsTrue (asks_only Q (tree_of C (simplified_in R E C env e)))

  -- to simplify with values for some unknowns, and then with values for further ones, is to
  -- simplify with both
  abbrev pub StagesAreOne : Type 0
  StagesAreOne =
      (C : X → BareCall) (env1 env2 : Env) → BindsPlainValues C env1 → BindsPlainValues C env2
      → (e : BareExpr)
      → simplified_in R E C env2 (tree_of C (simplified_in R E C env1 e))
      ≡ simplified_in R E C (both env1 env2) e

  -- to simplify twice is to simplify once
  abbrev pub SimplifiedTwice : Type 0
  SimplifiedTwice =
      (C : X → BareCall) (e : BareExpr)
      → simplified R E C (tree_of C (simplified R E C e)) ≡ simplified R E C e

-- a tree asks only for what passes just where its root does and each of its children
abbrev pub AsksByChildren : Type 0
AsksByChildren =
    (Q : Ask → Bool) (e : BareExpr)
    → asks_only Q e ≡ (passes Q e && list_all (asks_only Q) (children e))

-- the expression of a value without extension values asks for nothing
abbrev pub ValuesAskNothing : Type 0 → Type 0
ValuesAskNothing X =
    (C : X → BareCall) (Q : Ask → Bool) (t : BareValue X) → has_extension t ≡ false
    → IsTrue (asks_only Q (value_expr C t))
