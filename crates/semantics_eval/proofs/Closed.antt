-- What is closed is decided: no outcome is open.
use Rattle.std.proofs.Common.{◌≡◌, ◌≢◌, refl, sym, subst, Bool, true, Option, Some, None, Result, Ok, Err}
use Rattle.std.proofs.lemmas.Bool.{false≢true}
use Rattle.std.specs.Option.{is_some}
use Rattle.std.specs.declared.cmp.Ordering.{Ordering}
use Rattle.cedar_names.specs.Names.{BareName}
use Rattle.cedar_terms.specs.Types.{BareType}
use Rattle.cedar_builders.specs.BareExpr.{Text, BareExpr}
use Rattle.cedar_builders.specs.Ops.{Ops}
use Rattle.cedar_builders.specs.Environment.{Env, bound, fold}
use Rattle.cedar_builders.specs.Fold.{and_then}
use Rattle.semantics_values.specs.BareValue.{BareCall, BareValue}
use Rattle.semantics_values.specs.Laws.{BindsPlainValues}
use Rattle.semantics_eval.specs.Outcomes.{Fault, Open, By, Outcome}
use Rattle.semantics_eval.specs.Evaluator.{evaluator_ops}
use Rattle.semantics_eval.specs.Laws.{is_closed_node, is_closed}
use Rattle.semantics_eval.proofs.Kept.{IsPlainTree, bound_value}
use Rattle.semantics_eval.proofs.Steady.{IsSteady}
use Rattle.semantics_eval.proofs.Folds.{Refines, both_ok, related}

-- a value or a mistake
abbrev IsSettled : {A : Type 0} → Result A Fault → Type 0
IsSettled (Ok a) = Unit {0}
IsSettled (Err Open) = ⊥
IsSettled (Err (By m)) = Unit {0}

-- of the first of two outcomes
abbrev Settled : (A : Type 0) → Result A Fault → Result A Fault → Type 0
Settled A x y = IsSettled x

settled_after : {A C : Type 0} (f : A → Result C Fault) (x : Result A Fault) → IsSettled x
    → ((a : A) → IsSettled (f a)) → IsSettled (and_then f x)
settled_after f (Ok a) h l = l a
settled_after f (Err Open) h l = h
settled_after f (Err (By m)) h l = tt

settled_steady : IsSteady Settled
settled_steady = record {
  ok = λ A a. tt;
  mistake = λ A m. tt;
  step = λ A C f g x y h l. settled_after f x h l;
}

module _ {X : Type 0} (R : X → X → Ordering) (E : X → X → Bool) (C : X → BareCall) where
  abbrev ops : Ops (Outcome X) BareName
  ops = evaluator_ops R E

  abbrev AreSettled : Result (Outcome X) BareName → Result (Outcome X) BareName → Type 0
  AreSettled = Refines (Settled (BareValue X))

  -- what an unknown that is bound means
  binding : (x : Option (BareType × BareExpr))
      → ((r : BareType × BareExpr) → x ≡ Some r → IsPlainTree C r.1)
      → (n : Text) (s : Option BareType) → is_some x ≡ true
      → AreSettled (bound ops x n s) (bound ops x n s)
  binding None plain n s h = absurd (false≢true h)
  binding (Some r) plain n s h =
      let m = bound_value R E C r (plain r refl) n s in
      subst (λ z. AreSettled z z) (sym m.1) (both_ok tt)

  inside : {m n : Outcome X} → AreSettled (Ok m) (Ok n) → IsSettled m
  inside (both_ok h) = h

  pub never : (env : Env) → BindsPlainValues C env → (e : BareExpr) → is_closed env e ≡ true
      → fold ops env e ≢ Ok (Err Open)
  never env plain e closed is_open =
      inside
      (subst (λ z. AreSettled z z) is_open
      (related Settled settled_steady R E (is_closed_node env)
      (λ v h. absurd (false≢true h)) (λ s h. absurd (false≢true h))
      (λ n s. bound ops (env n) n s) (λ n s. bound ops (env n) n s)
      (λ n s h. binding (env n) (plain n) n s h) e closed))
