-- What is decided stays where more is bound: each outcome is open, or the same.
use Rattle.std.proofs.Common.{◌≡◌, ◌≢◌, refl, sym, ap, subst, ◌⊎◌, inl, inr, ⊎_elim, Bool, true, List, [], ◌∷◌, Option, Some, None, Result, Ok, Err}
use Rattle.std.specs.List.{list_all}
use Rattle.std.specs.Option.{option_or}
use Rattle.std.specs.declared.cmp.Ordering.{Ordering}
use Rattle.cedar_names.specs.Names.{BareName}
use Rattle.cedar_terms.specs.Types.{BareType}
use Rattle.cedar_builders.specs.BareExpr.{Text, BareExpr}
use Rattle.cedar_builders.specs.Ops.{Ops}
use Rattle.cedar_builders.specs.Environment.{Env, bound, fold}
use Rattle.cedar_builders.specs.Fold.{and_then}
use Rattle.cedar_builders.specs.Laws.{both}
use Rattle.cedar_builders.specs.Walks.{preorder}
use Rattle.semantics_values.specs.BareValue.{BareCall, BareValue}
use Rattle.semantics_values.specs.Laws.{BindsPlainValues}
use Rattle.semantics_eval.specs.Outcomes.{Fault, Open, Outcome}
use Rattle.semantics_eval.specs.Evaluator.{evaluator_ops}
use Rattle.semantics_eval.proofs.Kept.{IsPlainTree, bound_value}
use Rattle.semantics_eval.proofs.Steady.{IsSteady}
use Rattle.semantics_eval.proofs.Folds.{Refines, both_ok, both_refused, related}

-- the first is open, or both are the same
abbrev Below : (A : Type 0) → Result A Fault → Result A Fault → Type 0
Below A x y = (x ≡ Err Open) ⊎ (x ≡ y)

below_after : {A C : Type 0} (f g : A → Result C Fault) (x : Result A Fault)
    → ((a : A) → Below C (f a) (g a)) → Below C (and_then f x) (and_then g x)
below_after f g (Ok a) l = l a
below_after f g (Err e) l = inr refl

below_steady : IsSteady Below
below_steady = record {
  ok = λ A a. inr refl;
  mistake = λ A m. inr refl;
  step = λ A C f g x y h l.
      ⊎_elim
      (λ is_open. inl (ap (and_then f) is_open))
      (λ same. subst (λ z. Below C (and_then f x) (and_then g z)) same (below_after f g x l))
      h;
}

every : (es : List BareExpr) → list_all (λ e. true) es ≡ true
every [] = refl
every (e ∷ es) = every es

module _ {X : Type 0} (R : X → X → Ordering) (E : X → X → Bool) (C : X → BareCall) where
  abbrev ops : Ops (Outcome X) BareName
  ops = evaluator_ops R E

  abbrev AreBelow : Result (Outcome X) BareName → Result (Outcome X) BareName → Type 0
  AreBelow = Refines (Below (BareValue X))

  as_it_is : (r : Result (Outcome X) BareName) → AreBelow r r
  as_it_is (Ok a) = both_ok (inr refl)
  as_it_is (Err x) = both_refused

  -- what one environment binds an unknown to, and what both do
  bindings : (x y : Option (BareType × BareExpr))
      → ((r : BareType × BareExpr) → y ≡ Some r → IsPlainTree C r.1)
      → (n : Text) (s : Option BareType) → AreBelow (bound ops x n s) (bound ops (option_or x y) n s)
  bindings (Some r) y plain n s = as_it_is (bound ops (Some r) n s)
  bindings None None plain n s = both_ok (inr refl)
  bindings None (Some r) plain n s =
      let m = bound_value R E C r (plain r refl) n s in
      subst (AreBelow (Ok (Err Open))) (sym m.1) (both_ok (inl refl))

  decided : {r s : Result (Outcome X) BareName} → AreBelow r s → r ≢ Ok (Err Open) → s ≡ r
  decided (both_ok h) closed =
      ⊎_elim (λ is_open. absurd (closed (ap Ok is_open))) (λ same. ap Ok (sym same)) h
  decided both_refused closed = refl

  pub stays : (env1 env2 : Env) → BindsPlainValues C env2 → (e : BareExpr)
      → fold ops env1 e ≢ Ok (Err Open) → fold ops (both env1 env2) e ≡ fold ops env1 e
  stays env1 env2 plain e =
      decided
      (related Below below_steady R E (λ e. true) (λ v h. inr refl) (λ s h. inr refl)
      (λ n s. bound ops (env1 n) n s) (λ n s. bound ops (both env1 env2 n) n s)
      (λ n s h. bindings (env1 n) (env2 n) (plain n) n s) e (every (preorder e)))
