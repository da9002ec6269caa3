-- The laws of the evaluator, as a builder whose operations are B and whose outcomes mean what
-- `meaning_of` says.
use Rattle.std.specs.Prelude.{◌≡◌, ◌≢◌, IsOk, IsOkAnd, IsTrue, Result, Ok, Err}
use Rattle.std.specs.declared.cmp.Ord as Ord
use Rattle.std.specs.declared.cmp.PartialEq as PartialEq
use Rattle.std.specs.declared.cmp.PartialOrd as PartialOrd
use Rattle.std.specs.declared.cmp.Ordering.{Ordering}
use Rattle.cedar_builders.specs.BareExpr.{BareExpr}
use Rattle.cedar_builders.specs.Environment.{empty, fold}
use Rattle.cedar_builders.specs.Laws.{both}
use Rattle.cedar_builders.specs.Ops.{Ops}
use Rattle.semantics_values.specs.ValueExpr.{value_expr}
use Rattle.cedar_values.specs.BareValues.{bare_value}
use Rattle.cedar_values.specs.Holders.{NoExtension, held_call, plain_env}
use Rattle.cedar_values.specs.ValueMaps.{ValueMap}
use Rattle.cedar_values.specs.WellFormed.{well_formed}
use Rattle.cedar_values.specs.declared.value.Value.{Value}
use Rattle.semantics_eval.specs.Laws.{is_closed}
use Rattle.cedar_evaluator.specs.Outcomes.{result_of}
use Rattle.cedar_evaluator.specs.declared.fault.EvalFault.TheVariants.{Open}
use Rattle.cedar_evaluator.specs.declared.outcome.Outcome.{Outcome}

module _ {X : Type 0} {o : Ord.Ghosts X} {e : PartialEq.Ghosts X} {p : PartialOrd.Ghosts X} where
  -- the outcome is a value, with the tree of this one
  abbrev pub HasValue : Value X → Outcome X o e p → Type 0
  HasValue v m = IsOkAnd (result_of m) (λ w. bare_value w ≡ bare_value v)

  module _ {M F : Type 0} (meaning_of : Outcome X o e p → M) where
    -- no call is refused, and each outcome of this meaning has this value
    pub record IsValue (r : Result M F) (v : Value X) : Type 0 where
      pub accepted : IsOk r
      pub value : (m : Outcome X o e p) → r ≡ Ok (meaning_of m) → HasValue v m

    -- no outcome of this meaning is open
    abbrev pub IsDecided : Result M F → Type 0
    IsDecided r = (m : Outcome X o e p) → r ≡ Ok (meaning_of m) → result_of m ≢ Err Open

-- the laws where there are no extension values
module _ {o : Ord.Ghosts NoExtension} {e : PartialEq.Ghosts NoExtension} {p : PartialOrd.Ghosts NoExtension}
    {M F : Type 0} (B : Ops M F) (meaning_of : Outcome NoExtension o e p → M) where
  -- the expression of a well formed value evaluates to that value
  abbrev pub ValueKept : (NoExtension → NoExtension → Ordering) → Type 0
  ValueKept R =
      (v : Value NoExtension) → IsTrue (well_formed R v)
      → IsValue meaning_of (fold B empty (value_expr held_call (bare_value v))) v

  -- what is decided is the same where a further map binds more unknowns
  abbrev pub DecidedStays : Type 0
  DecidedStays =
      (m n : ValueMap NoExtension) (t : BareExpr) → IsDecided meaning_of (fold B (plain_env m) t)
      → fold B (both (plain_env m) (plain_env n)) t ≡ fold B (plain_env m) t

  -- what is closed is decided
  abbrev pub NeverOpen : Type 0
  NeverOpen =
      (m : ValueMap NoExtension) (t : BareExpr) → IsTrue (is_closed (plain_env m) t)
      → IsDecided meaning_of (fold B (plain_env m) t)
