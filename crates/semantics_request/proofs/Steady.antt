-- The operations keep each relation of outcomes that values, mistakes and steps one after the other
-- keep.
use Rattle.std.proofs.Common.{◌≡◌, refl, subst, Bool, true, false, List, [], ◌∷◌, Option, Some, None, Result, Ok, Err}
use Rattle.std.specs.declared.cmp.Ordering.{Ordering}
use Rattle.cedar_builders.specs.BareExpr.{Text}
use Rattle.cedar_builders.specs.Fold.{on_one, on_two, and_then}
use Rattle.semantics_values.specs.BareValue.{BareValue, RecordValue, pairs_of}
use Rattle.semantics_eval.specs.Outcomes.{Mistake, WrongType, Fault, By, Outcome, settled, truth, truth_of, strict, chosen, if_outcome, as_truth, and_outcome, or_outcome}
use Rattle.semantics_eval.specs.Rows.{all_values, all_pairs, set_value, set_outcome, record_outcome}
use Rattle.semantics_request.specs.Evaluator.{then_two, path_by}

-- a relation that values, mistakes and steps one after the other keep
pub record IsSteady (Q : (A : Type 0) → Result A Fault → Result A Fault → Type 0) : Type 1 where
  pub ok : (A : Type 0) (a : A) → Q A (Ok a) (Ok a)
  pub mistake : (A : Type 0) (m : Mistake) → Q A (Err (By m)) (Err (By m))
  pub step :
      (A C : Type 0) (f g : A → Result C Fault) (x y : Result A Fault) → Q A x y
      → ((a : A) → Q C (f a) (g a)) → Q C (and_then f x) (and_then g y)

one_is : {A C : Type 0} (f : A → C) (x : Result A Fault) → and_then (λ a. Ok (f a)) x ≡ on_one f x
one_is f (Ok a) = refl
one_is f (Err e) = refl

two_is : {A C D : Type 0} (f : A → C → D) (x : Result A Fault) (y : Result C Fault)
    → and_then (λ a. on_one (f a) y) x ≡ on_two f x y
two_is f (Ok a) y = refl
two_is f (Err e) y = refl

-- one by one
abbrev pub AllRelated : {M : Type 0} → (M → M → Type 0) → List M → List M → Type 0
AllRelated Q [] [] = Unit {0}
AllRelated Q [] (n ∷ ns) = ⊥
AllRelated Q (m ∷ ms) [] = ⊥
AllRelated Q (m ∷ ms) (n ∷ ns) = Q m n × AllRelated Q ms ns

-- and with the same keys
abbrev pub PairsRelated :
    {M : Type 0} → (M → M → Type 0) → List (Text × M) → List (Text × M) → Type 0
PairsRelated Q [] [] = Unit {0}
PairsRelated Q [] (q ∷ qs) = ⊥
PairsRelated Q (p ∷ ps) [] = ⊥
PairsRelated Q (p ∷ ps) (q ∷ qs) = (p.0 ≡ q.0) × Q p.1 q.1 × PairsRelated Q ps qs

module _ (Q : (A : Type 0) → Result A Fault → Result A Fault → Type 0) (k : IsSteady Q) where
  one_keeps : {A C : Type 0} (f : A → C) (x y : Result A Fault) → Q A x y
      → Q C (on_one f x) (on_one f y)
  one_keeps {A} {C} f x y h =
      subst (λ z. Q C z (on_one f y)) (one_is f x)
      (subst (Q C (and_then (λ a. Ok (f a)) x)) (one_is f y)
      (k.step A C (λ a. Ok (f a)) (λ a. Ok (f a)) x y h (λ a. k.ok C (f a))))

  two_keep : {A C D : Type 0} (f : A → C → D) (x y : Result A Fault) (z w : Result C Fault)
      → Q A x y → Q C z w → Q D (on_two f x z) (on_two f y w)
  two_keep {A} {C} {D} f x y z w h l =
      subst (λ v. Q D v (on_two f y w)) (two_is f x z)
      (subst (Q D (and_then (λ a. on_one (f a) z) x)) (two_is f y w)
      (k.step A D (λ a. on_one (f a) z) (λ a. on_one (f a) w) x y h (λ a. one_keeps (f a) z w l)))

  module _ {X : Type 0} where
    abbrev Same : Outcome X → Outcome X → Type 0
    Same = Q (BareValue X)

    pub settled_keeps : (r : Result (BareValue X) Mistake) → Same (settled r) (settled r)
    settled_keeps (Ok t) = k.ok (BareValue X) t
    settled_keeps (Err m) = k.mistake (BareValue X) m

    -- an operation on one value, and on two
    pub then_keeps : (f g : BareValue X → Outcome X) → ((t : BareValue X) → Same (f t) (g t))
        → (m n : Outcome X) → Same m n → Same (and_then f m) (and_then g n)
    then_keeps f g l m n h = k.step (BareValue X) (BareValue X) f g m n h l

    pub strict_keeps : (f : BareValue X → Result (BareValue X) Mistake) (m n : Outcome X) → Same m n
        → Same (strict f m) (strict f n)
    strict_keeps f = then_keeps (λ t. settled (f t)) (λ t. settled (f t)) (λ t. settled_keeps (f t))

    pub then_two_keeps : (f g : BareValue X → BareValue X → Outcome X)
        → ((t u : BareValue X) → Same (f t u) (g t u)) → (m n o p : Outcome X) → Same m n → Same o p
        → Same (then_two f m o) (then_two g n p)
    then_two_keeps f g l m n o p h i =
        then_keeps (λ t. and_then (f t) o) (λ t. and_then (g t) p)
        (λ t. then_keeps (f t) (g t) (l t) o p i) m n h

    chosen_keeps : (b : Option Bool) (m n o p : Outcome X) → Same m n → Same o p
        → Same (chosen b m o) (chosen b n p)
    chosen_keeps None m n o p h l = k.mistake (BareValue X) WrongType
    chosen_keeps (Some true) m n o p h l = h
    chosen_keeps (Some false) m n o p h l = l

    pub if_keeps : (s t m n o p : Outcome X) → Same s t → Same m n → Same o p
        → Same (if_outcome s m o) (if_outcome t n p)
    if_keeps s t m n o p g h l =
        then_keeps (λ b. chosen (truth_of b) m o) (λ b. chosen (truth_of b) n p)
        (λ b. chosen_keeps (truth_of b) m n o p h l) s t g

    pub and_keeps : (m n o p : Outcome X) → Same m n → Same o p
        → Same (and_outcome m o) (and_outcome n p)
    and_keeps m n o p h l =
        if_keeps m n (strict as_truth o) (strict as_truth p) (Ok (truth false))
        (Ok (truth false)) h (strict_keeps as_truth o p l) (k.ok (BareValue X) (truth false))

    pub or_keeps : (m n o p : Outcome X) → Same m n → Same o p → Same (or_outcome m o) (or_outcome n p)
    or_keeps m n o p h l =
        if_keeps m n (Ok (truth true)) (Ok (truth true)) (strict as_truth o) (strict as_truth p) h
        (k.ok (BareValue X) (truth true)) (strict_keeps as_truth o p l)

    pub path_keeps : (has has' get get' : Text → BareValue X → Outcome X)
        → ((j : Text) (t : BareValue X) → Same (has j t) (has' j t))
        → ((j : Text) (t : BareValue X) → Same (get j t) (get' j t))
        → (m n : Outcome X) (j : Text) (js : List Text) → Same m n
        → Same (path_by has get m j js) (path_by has' get' n j js)
    path_keeps has has' get get' l g m n j [] h = then_keeps (has j) (has' j) (l j) m n h
    path_keeps has has' get get' l g m n j (i ∷ is) h =
        if_keeps (and_then (has j) m) (and_then (has' j) n)
        (path_by has get (and_then (get j) m) i is) (path_by has' get' (and_then (get' j) n) i is)
        (Ok (truth false)) (Ok (truth false))
        (then_keeps (has j) (has' j) (l j) m n h)
        (path_keeps has has' get get' l g (and_then (get j) m) (and_then (get' j) n) i is
        (then_keeps (get j) (get' j) (g j) m n h))
        (k.ok (BareValue X) (truth false))

    pub values_keep : (ms ns : List (Outcome X)) → AllRelated Same ms ns
        → Q (List (BareValue X)) (all_values ms) (all_values ns)
    values_keep [] [] h = k.ok (List (BareValue X)) []
    values_keep [] (n ∷ ns) h = absurd h
    values_keep (m ∷ ms) [] h = absurd h
    values_keep (m ∷ ms) (n ∷ ns) h =
        two_keep (λ t ts. t ∷ ts) m n (all_values ms) (all_values ns) h.0 (values_keep ms ns h.1)

    pairs_keep : (ps qs : List (Text × Outcome X)) → PairsRelated Same ps qs
        → Q (List (Text × BareValue X)) (all_pairs ps) (all_pairs qs)
    pairs_keep [] [] h = k.ok (List (Text × BareValue X)) []
    pairs_keep [] (q ∷ qs) h = absurd h
    pairs_keep (p ∷ ps) [] h = absurd h
    pairs_keep (p ∷ ps) (q ∷ qs) h =
        subst
        (λ a. Q (List (Text × BareValue X)) (all_pairs (p ∷ ps))
        (on_two (λ t rs. (a, t) ∷ rs) q.1 (all_pairs qs)))
        h.0
        (two_keep (λ t rs. (p.0, t) ∷ rs) p.1 q.1 (all_pairs ps) (all_pairs qs) h.1
        (pairs_keep ps qs h.2))

    pub set_keeps : (R : X → X → Ordering) (ms ns : List (Outcome X)) → AllRelated Same ms ns
        → Same (set_outcome R ms) (set_outcome R ns)
    set_keeps R ms ns h =
        one_keeps (set_value R) (all_values ms) (all_values ns) (values_keep ms ns h)

    pub record_keeps : (ps qs : List (Text × Outcome X)) → PairsRelated Same ps qs
        → Same (record_outcome ps) (record_outcome qs)
    record_keeps ps qs h =
        one_keeps (λ rs. RecordValue (pairs_of rs)) (all_pairs ps) (all_pairs qs)
        (pairs_keep ps qs h)
