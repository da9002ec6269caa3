-- What is promised of what a condition is simplified to by what is known.
use Rattle.std.specs.Prelude.{◌≡◌, Bool, IsTrue, Ok}
use Rattle.std.specs.declared.cmp.Ordering.{Ordering}
use Rattle.cedar_builders.specs.BareExpr.{BareExpr}
use Rattle.semantics_values.specs.BareValue.{BareCall, BareValue}
use Rattle.semantics_values.specs.Laws.{BindsPlainValues}
use Rattle.semantics_simplify.specs.Asks.{Ask, asks_only}
use Rattle.semantics_simplify.specs.Simplified.{Simplified, Known, tree_of}
use Rattle.semantics_request.specs.Evaluator.{evaluated}
use Rattle.semantics_request.specs.Laws.{IsFuller, is_answered_or}
use Rattle.semantics_request.specs.Requests.{Functions, Knowledge}

-- R and E are the order and the equality of extension values, C says the canonical call of one; k
-- is what is known, e a condition, and p what it is simplified to
module _ {X : Type 0} (R : X → X → Ordering) (E : X → X → Bool) (C : X → BareCall)
    (k : Knowledge X) (e : BareExpr) (p : Simplified X) where
  -- wherever more is known, and by any table of functions, the residual has the outcome of the
  -- condition, or is refused by the same name
  abbrev pub MeansTheSameLater : Type 0
  MeansTheSameLater =
      (T : Functions X) (l : Knowledge X) → IsFuller k l → BindsPlainValues C l.bindings
      → evaluated R E T l (tree_of C p) ≡ evaluated R E T l e

  -- and a value that is known is that outcome
  abbrev pub KnownStaysLater : Type 0
  KnownStaysLater =
      (T : Functions X) (l : Knowledge X) → IsFuller k l → BindsPlainValues C l.bindings
      → (t : BareValue X) → p ≡ Known t → evaluated R E T l e ≡ Ok (Ok t)

  -- the residual asks only for what the condition asks for, and for nothing that is answered
  abbrev pub AsksNoMore : Type 0
  AsksNoMore =
      (Q : Ask → Bool) → IsTrue (asks_only (is_answered_or R E C k Q) e)
      → IsTrue (asks_only Q (tree_of C p))
