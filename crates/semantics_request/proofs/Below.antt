-- Outcomes that are undecided, or the same: what is decided stays.
use Rattle.std.proofs.Common.{◌≡◌, ◌≢◌, refl, sym, ap, subst, ◌∙◌, Bool, true, false, List, [], ◌∷◌, Option, Some, None, Result, Ok, Err, ℤ, int_lt, int_le}
use Rattle.std.proofs.lemmas.Bool.{false≢true}
use Rattle.std.specs.List.{list_all}
use Rattle.std.specs.Ordering.{is_lt, is_le}
use Rattle.std.specs.declared.cmp.Ordering.{Ordering}
use Rattle.cedar_names.specs.Names.{BareName}
use Rattle.cedar_terms.specs.Literals.{EntityLit}
use Rattle.cedar_terms.specs.Types.{BareType}
use Rattle.cedar_terms.specs.declared.ops.BinaryOp.{BinaryOp}
use Rattle.cedar_terms.specs.declared.ops.BinaryOp.TheVariants as Binary
use Rattle.cedar_builders.specs.BareExpr.{Text, BareExpr, Var, Slot, Unknown, ExtensionFunctionApp}
use Rattle.cedar_builders.specs.Environment.{Env, own, bound, fold}
use Rattle.cedar_builders.specs.Fold.{and_then}
use Rattle.cedar_builders.specs.Ops.{Ops}
use Rattle.cedar_builders.specs.Walks.{preorder}
use Rattle.semantics_values.specs.BareValue.{BareValue, LitValue, ExtensionValue}
use Rattle.semantics_eval.specs.Outcomes.{Mistake, WrongType, Overflow, Missing, Store, Fault, Open, By, Outcome, settled}
use Rattle.semantics_eval.specs.Attributes.{get_in, has_in}
use Rattle.semantics_eval.specs.Longs.{compared}
use Rattle.semantics_eval.specs.Operators.{apply_two}
use Rattle.semantics_eval.specs.Evaluator.{evaluator_ops}
use Rattle.semantics_simplify.specs.Asks.{passes, asks_only}
use Rattle.semantics_simplify.specs.Laws.{AsksByChildren}
use Rattle.semantics_request.specs.Entities.{Entities, attribute, has_attribute}
use Rattle.semantics_request.specs.Requests.{Request, Functions, Knowledge}
use Rattle.semantics_request.specs.Evaluator.{compared_or, apply_by, evaluated}
use Rattle.semantics_request.specs.Laws.{ClosedStays}
use Rattle.semantics_request.proofs.Steady.{IsSteady}
use Rattle.semantics_request.proofs.Related.{Anyhow, Related, both_ok, refused, KeepOps, related}
use Rattle.semantics_request.proofs.Answered.{ops_by, by_request, closed, closed_is, keep_ops}

-- the first has a fault that may go away, or both are the same
pub data Below (P : Fault → Bool) (A : Type 0) : Result A Fault → Result A Fault → Type 0 where
  undecided : {f : Fault} {y : Result A Fault} → P f ≡ true → Below P A (Err f) y
  same : {x : Result A Fault} → Below P A x x

module _ (P : Fault → Bool) where
  same_after : {A C : Type 0} (f g : A → Result C Fault) (x : Result A Fault)
      → ((a : A) → Below P C (f a) (g a)) → Below P C (and_then f x) (and_then g x)
  same_after f g (Ok a) l = l a
  same_after f g (Err e) l = same

  step : (A C : Type 0) (f g : A → Result C Fault) (x y : Result A Fault) → Below P A x y
      → ((a : A) → Below P C (f a) (g a)) → Below P C (and_then f x) (and_then g y)
  step A C f g _ y (undecided p) l = undecided p
  step A C f g x _ same l = same_after f g x l

  pub below_steady : IsSteady (Below P)
  below_steady = record {
    ok = λ A a. same;
    mistake = λ A m. same;
    step = step;
  }

-- a value is the same
pub below_ok : {P : Fault → Bool} {A : Type 0} {t : A} {y : Result A Fault} → Below P A (Ok t) y → y ≡ Ok t
below_ok same = refl

-- every tree asks for what passes where all does
all_pass : (es : List BareExpr) → list_all (passes (λ a. true)) es ≡ true
all_pass [] = refl
all_pass (Var v ∷ es) = all_pass es
all_pass (Slot s ∷ es) = all_pass es
all_pass (Unknown n t ∷ es) = all_pass es
all_pass (ExtensionFunctionApp n fs ∷ es) = all_pass es
all_pass (e ∷ es) = all_pass es

pub asks_all : (e : BareExpr) → asks_only (λ a. true) e ≡ true
asks_all e = all_pass (preorder e)

-- faults that a store, a request or a binding may take away
abbrev pub may_go : Fault → Bool
may_go Open = true
may_go (By Store) = true
may_go f = false

module _ (by_children : AsksByChildren) {X : Type 0} (R : X → X → Ordering) (E : X → X → Bool)
    (T : Functions X) where
  module _ (q : Request X) (s : Entities X) where
    at_compared : (f : ℤ → ℤ → Bool) (g : Ordering → Bool) (t u : BareValue X)
        → Below may_go (BareValue X) (settled (compared f t u))
        (compared_or T.compare g t u (settled (compared f t u)))
    at_compared f g (ExtensionValue x c) (ExtensionValue y d) = undecided refl
    at_compared f g (ExtensionValue x c) u = same
    at_compared f g t u = same

    pub at_two : (o : BinaryOp) (t u : BareValue X)
        → Below may_go (BareValue X) (settled (apply_two R E o t u)) (apply_by R E T s o t u)
    at_two Binary.In t u = undecided refl
    at_two Binary.GetTag t u = undecided refl
    at_two Binary.HasTag t u = undecided refl
    at_two Binary.Less t u = at_compared int_lt is_lt t u
    at_two Binary.LessEq t u = at_compared int_le is_le t u
    at_two o t u = same

    pub at_get : (j : Text) (t : BareValue X)
        → Below may_go (BareValue X) (settled (get_in j t)) (attribute s j t)
    at_get j (LitValue (EntityLit u)) = undecided refl
    at_get j t = same

    pub at_has : (j : Text) (t : BareValue X)
        → Below may_go (BareValue X) (settled (has_in j t)) (has_attribute s j t)
    at_has j (LitValue (EntityLit u)) = undecided refl
    at_has j t = same

    abbrev old : Ops (Outcome X) BareName
    old = ops_by R E (closed R E)

    abbrev new : Ops (Outcome X) BareName
    new = ops_by R E (by_request R E T q s)

    abbrev Same : Result (Outcome X) BareName → Result (Outcome X) BareName → Type 0
    Same = Related Anyhow (Below may_go (BareValue X))

    keep : KeepOps Anyhow (λ a. true) (Below may_go (BareValue X)) old new
    keep =
        keep_ops R E (Below may_go) (below_steady may_go) Anyhow (λ a. true) (closed R E)
        (by_request R E T q s) (λ v h. undecided refl) (λ l h. undecided refl) at_two at_get at_has
        (λ n h ms ns l. refused tt)

    unbound : (n : Text) (t : Option BareType) → Same (own old n t) (own new n t)
    unbound n t = both_ok same

    bindings : (x : Option (BareType × BareExpr)) (n : Text) (t : Option BareType)
        → Same (bound old x n t) (bound new x n t)
    bindings None n t = unbound n t
    bindings (Some r) n t =
        related by_children Anyhow (λ a. true) (Below may_go (BareValue X)) old new keep (own old)
        (own new) (λ m u h. unbound m u) r.1 (asks_all r.1)

    below : (env : Env) (e : BareExpr) → Same (fold old env e) (fold new env e)
    below env e =
        related by_children Anyhow (λ a. true) (Below may_go (BareValue X)) old new keep
        (λ n t. bound old (env n) n t) (λ n t. bound new (env n) n t)
        (λ n t h. bindings (env n) n t) e (asks_all e)

  -- what it says of an outcome that no fault may take away
  value_stays : (t : BareValue X) {r : Result (Outcome X) BareName}
      → Related Anyhow (Below may_go (BareValue X)) (Ok (Ok t)) r → r ≡ Ok (Ok t)
  value_stays t (both_ok same) = refl

  mistake_stays : (m : Mistake) → m ≢ Store → {r : Result (Outcome X) BareName}
      → Related Anyhow (Below may_go (BareValue X)) (Ok (Err (By m))) r → r ≡ Ok (Err (By m))
  mistake_stays m other (both_ok same) = refl
  mistake_stays Store other (both_ok (undecided p)) = absurd (other refl)
  mistake_stays WrongType other (both_ok (undecided p)) = absurd (false≢true p)
  mistake_stays Overflow other (both_ok (undecided p)) = absurd (false≢true p)
  mistake_stays Missing other (both_ok (undecided p)) = absurd (false≢true p)

  -- from what the closed evaluator gives
  from : (k : Knowledge X) (e : BareExpr) (r : Result (Outcome X) BareName)
      → fold (evaluator_ops R E) k.bindings e ≡ r
      → Related Anyhow (Below may_go (BareValue X)) r (evaluated R E T k e)
  from k e r h =
      subst (λ x. Related Anyhow (Below may_go (BareValue X)) x (evaluated R E T k e))
      (ap (λ B. fold B k.bindings e) (sym (closed_is R E)) ∙ h)
      (below k.request k.entities k.bindings e)

pub closed_stays : AsksByChildren → {X : Type 0} (R : X → X → Ordering) (E : X → X → Bool)
    → ClosedStays R E
closed_stays by_children R E = record {
  value = λ T k e t h. value_stays by_children R E T t (from by_children R E T k e (Ok (Ok t)) h);
  mistake = λ T k e m other h.
      mistake_stays by_children R E T m other (from by_children R E T k e (Ok (Err (By m))) h);
}
