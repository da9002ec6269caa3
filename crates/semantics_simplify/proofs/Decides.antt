-- Where no position is a variable, a slot, a call, or an unknown that is not bound, a value of the
-- outcome is known: one lemma a kind, and one induction over trees.
use Rattle.std.proofs.Common.{◌≡◌, refl, sym, ◌∙◌, ap, subst, Bool, true, false, ◌&&◌, ◌||◌, List, [], ◌∷◌, map, Option, Some, None, Result, Ok, Err}
use Rattle.std.proofs.lemmas.Bool.{and_parts, false≢true}
use Rattle.std.specs.List.{list_all}
use Rattle.std.specs.Prelude.{is_some, if◌then◌else◌}
use Rattle.std.specs.declared.cmp.Ordering.{Ordering}
use Rattle.cedar_names.specs.Names.{BareName}
use Rattle.cedar_terms.specs.Literals.{BoolLit}
use Rattle.cedar_terms.specs.Types.{BareType}
use Rattle.cedar_builders.specs.BareExpr.{Text, BareExpr, Lit, Var, Slot, Unknown, If, And, Or, UnaryApp, BinaryApp, ExtensionFunctionApp, GetAttr, HasAttr, Like, Set, Record, Is, BareExprs, no_trees, tree, BareFields, no_fields, field}
use Rattle.cedar_builders.specs.Ops.{Ops}
use Rattle.cedar_builders.specs.Environment.{Env}
use Rattle.cedar_builders.specs.Fold.{on_one, on_two, on_three, fold_with, fold_all, fold_fields}
use Rattle.cedar_builders.specs.Walks.{preorder}
use Rattle.semantics_values.specs.BareValue.{BareCall, BareValue, LitValue, RecordValue, pairs_of}
use Rattle.semantics_eval.specs.Outcomes.{Mistake, Outcome, truth, truth_of, strict, strict_two, chosen, if_outcome, as_truth, and_outcome, or_outcome}
use Rattle.semantics_eval.specs.Attributes.{get_in, has_path, like_in, is_in}
use Rattle.semantics_eval.specs.Operators.{apply_one, apply_two}
use Rattle.semantics_eval.specs.Rows.{all_values, all_pairs, set_value, set_outcome, record_outcome}
use Rattle.semantics_eval.specs.Evaluator.{evaluator_ops}
use Rattle.semantics_eval.specs.Laws.{is_closed_node}
use Rattle.semantics_simplify.specs.Asks.{passes, is_bound_or, is_no_call}
use Rattle.semantics_simplify.specs.Simplified.{Simplified, Known, Residual, tree_of, child_trees, child_fields, outcome_of, pair_outcomes, known_or, known_truth, calls_nothing, is_boolean}
use Rattle.semantics_simplify.specs.Simplifier.{branch_or, and_or, or_or, simplifier_ops}
use Rattle.semantics_simplify.proofs.Values.{EvaluatorLaws}
use Rattle.semantics_simplify.proofs.Calls.{rows, calls_values, AllPass, behind, only, weaker, IsAnswer}
use Rattle.semantics_simplify.proofs.Means.{no_value, IsStrict, strict_is, path_is, two_given, one_given, both_given, first_chosen, second_chosen, and_true, and_false, or_true, or_false, Means, test_is, boolean_answer, none_refused}
use Rattle.semantics_simplify.proofs.Asks.{Passing, passed}
use Rattle.semantics_simplify.specs.Sure.{Sure, sure_one, sure_two, sure_three, sure_both, sure_weaker}
use Rattle.semantics_simplify.proofs.Sound.{sound}

-- whether a node is no variable, slot or call, and no unknown that is not bound
abbrev pub is_settled_node : Env → BareExpr → Bool
is_settled_node env e = is_closed_node env e && passes is_no_call e

-- such a node is no call
node_calls : (env : Env) (e : BareExpr) → is_settled_node env e ≡ true
    → passes (is_bound_or env is_no_call) e ≡ true
node_calls env (Unknown n t) h = ap (λ b. b || true) (and_parts (is_some (env n)) true h).0
node_calls env (ExtensionFunctionApp n es) h = h
node_calls env e h = refl

pub both_pass : (P Q : BareExpr → Bool) (es : List BareExpr) → list_all P es ≡ true
    → list_all Q es ≡ true → list_all (λ e. P e && Q e) es ≡ true
both_pass P Q [] h k = refl
both_pass P Q (e ∷ es) h k =
    let here : (P e && Q e) ≡ true =
    λ i. (and_parts (P e) _ h).0 i && (and_parts (Q e) _ k).0 i in
    let rest = both_pass P Q es (and_parts (P e) _ h).1 (and_parts (Q e) _ k).1 in
    λ i. here i && rest i

three_given : {A D F : Type 0} (f : A → A → A → D) (x y z : Result A F) (d : D)
    → on_three f x y z ≡ Ok d
    → (a : A) × (b : A) × (c : A) × (x ≡ Ok a) × (y ≡ Ok b) × (z ≡ Ok c) × (d ≡ f a b c)
three_given f (Ok a) (Ok b) (Ok c) d h =
    let e : d ≡ f a b c = cc in
    (a, b, c, refl, refl, refl, e)
three_given f (Ok a) (Ok b) (Err e) d h = absurd (no_value e d h)
three_given f (Ok a) (Err e) z d h = absurd (no_value e d h)
three_given f (Err e) y z d h = absurd (no_value e d h)

module _ {X : Type 0} where
  -- a value that is a Boolean
  abbrev IsTested : Outcome X → Type 0
  IsTested m = (t : BareValue X) × (b : Bool) × (m ≡ Ok t) × (truth_of t ≡ Some b)

  -- the test of what is a value
  tested : (m n o : Outcome X) (t : BareValue X) → if_outcome m n o ≡ Ok t → IsTested m
  tested (Ok u) n o t h = go (truth_of u) refl h
    where
      go : (b : Option Bool) → truth_of u ≡ b → chosen b n o ≡ Ok t → IsTested (Ok u)
      go None is k = absurd (no_value _ t k)
      go (Some b) is k = (u, b, refl, is)
  tested (Err e) n o t h = absurd (no_value e t h)

  -- a value that had to be a Boolean
  was_truth : (m : Outcome X) (t : BareValue X) → strict as_truth m ≡ Ok t
      → (u : BareValue X) × (m ≡ Ok u) × (is_some (truth_of u) ≡ true)
  was_truth (Ok (LitValue (BoolLit b))) t h = (truth b, refl, refl)
  was_truth (Ok u) t h = absurd (no_value _ t h)
  was_truth (Err e) t h = absurd (no_value e t h)

module _ {X : Type 0} {R : X → X → Ordering} {E : X → X → Bool} (laws : EvaluatorLaws R E)
    (C : X → BareCall) (f : Text → Option BareType → Result (Outcome X) BareName)
    (answers : (n : Text) (t : Option BareType) → IsAnswer (f n t)) where
  abbrev Same : Simplified X → Result (Outcome X) BareName → Type 0
  Same = Means laws C f

  -- a value of the answer is known
  abbrev pub Decides : Simplified X → Result (Outcome X) BareName → Type 0
  Decides p r = (t : BareValue X) → r ≡ Ok (Ok t) → p ≡ Known t

  -- and it calls nothing
  abbrev Both : Simplified X → Result (Outcome X) BareName → Type 0
  Both p r = Same p r × Decides p r × (calls_nothing p ≡ true)

  outcome_known : (p : Simplified X) (r : Result (Outcome X) BareName) → Decides p r → (m : Outcome X)
      (t : BareValue X) → r ≡ Ok m → m ≡ Ok t → outcome_of p ≡ Ok t
  outcome_known p r h m t is v = ap outcome_of (h t (is ∙ ap Ok v))

  pub decides_value : (t : BareValue X) → Decides (Known t) (Ok (Ok t))
  decides_value t u is = let e : t ≡ u = cc in ap Known e

  of_one : (e : BareExpr) (op : Outcome X → Outcome X) → IsStrict op → (p : Simplified X)
      (r : Result (Outcome X) BareName) → Decides p r
      → Decides (known_or e (op (outcome_of p))) (on_one op r)
  of_one e op needs p r h t is =
      let u = one_given op r (Ok t) is in
      let v = needs u.0 t (sym u.2) in
      ap (known_or e) (ap op (outcome_known p r h u.0 v.0 u.1 v.1 ∙ sym v.1) ∙ sym u.2)

  of_two : (e : BareExpr) (g : BareValue X → BareValue X → Result (BareValue X) Mistake)
      (p q : Simplified X) (r s : Result (Outcome X) BareName) → Decides p r → Decides q s
      → Decides (known_or e (strict_two g (outcome_of p) (outcome_of q)))
      (on_two (strict_two g) r s)
  of_two e g p q r s h l t is =
      let u = both_given (strict_two g) r s (Ok t) is in
      let v = two_given g u.0 u.1 t (sym u.4) in
      let a = outcome_known p r h u.0 v.0 u.2 v.2 ∙ sym v.2 in
      let b = outcome_known q s l u.1 v.1 u.3 v.3 ∙ sym v.3 in
      ap (known_or e) ((λ i. strict_two g (a i) (b i)) ∙ sym u.4)

  -- a test whose Boolean is not known has no value that is one
  untested : (p : Simplified X) (r : Result (Outcome X) BareName) → Decides p r → known_truth p ≡ None
      → (m : Outcome X) → r ≡ Ok m → IsTested m → ⊥
  untested p r h none m is t =
      let k = ap known_truth (h t.0 (is ∙ ap Ok t.2)) in
      let e : None ≡ Some t.1 = sym none ∙ (k ∙ t.3) in
      absurd cc

  of_if : (p q s : Simplified X) (x y z : Result (Outcome X) BareName) → Both p x → Both q y
      → Both s z
      → Decides (branch_or (If (tree_of C p) (tree_of C q) (tree_of C s)) (known_truth p) q s)
      (on_three if_outcome x y z)
  of_if p q s x y z h k l = go (known_truth p) refl
    where
      by : (b : Bool) → known_truth p ≡ Some b
          → on_three if_outcome x y z ≡ on_three if_outcome (Ok (Ok (truth b))) y z
      by b is = ap (λ r. on_three if_outcome r y z) (test_is laws C f p x b h.0 is)

      go : (b : Option Bool) → known_truth p ≡ b
          → Decides (branch_or (If (tree_of C p) (tree_of C q) (tree_of C s)) b q s)
          (on_three if_outcome x y z)
      go None is =
          λ t has.
          let u = three_given if_outcome x y z (Ok t) has in
          absurd (untested p x h.1 is u.0 u.3 (tested u.0 u.1 u.2 t (sym u.6)))
      go (Some true) is =
          subst
          (λ c. Decides (if c then q else Residual (If (tree_of C p) (tree_of C q) (tree_of C s)))
          (on_three if_outcome x y z))
          (sym l.2)
          (subst (Decides q)
          (sym (by true is ∙ first_chosen y z (none_refused laws C f answers s z l.0 l.2)))
          k.1)
      go (Some false) is =
          subst
          (λ c. Decides (if c then s else Residual (If (tree_of C p) (tree_of C q) (tree_of C s)))
          (on_three if_outcome x y z))
          (sym k.2)
          (subst (Decides s)
          (sym (by false is ∙ second_chosen y z (none_refused laws C f answers q y k.0 k.2)))
          l.1)

  -- a right side that has to be a Boolean
  right : (node : BareExpr) (q : Simplified X) (y r : Result (Outcome X) BareName) → Decides q y
      → (is_boolean q ≡ true → r ≡ y)
      → ((t : BareValue X) → r ≡ Ok (Ok t)
      → (m : Outcome X) × (y ≡ Ok m) × (strict as_truth m ≡ Ok t))
      → Decides (if is_boolean q then q else Residual node) r
  right node q y r k same has = go (is_boolean q) refl
    where
      go : (b : Bool) → is_boolean q ≡ b → Decides (if b then q else Residual node) r
      go true is = subst (Decides q) (sym (same is)) k
      go false is =
          λ t v.
          let u = has t v in
          let w = was_truth u.0 t u.2 in
          let e = ap is_boolean (k w.0 (u.1 ∙ ap Ok w.1)) in
          absurd (false≢true (sym is ∙ (e ∙ w.2)))

  and_right_is : (y : Result (Outcome X) BareName) (t : BareValue X)
      → on_two and_outcome (Ok (Ok (truth true))) y ≡ Ok (Ok t)
      → (m : Outcome X) × (y ≡ Ok m) × (strict as_truth m ≡ Ok t)
  and_right_is (Ok m) t h = (m, refl, (let e : strict as_truth m ≡ Ok t = cc in e))
  and_right_is (Err x) t h = absurd (no_value x _ h)

  or_right_is : (y : Result (Outcome X) BareName) (t : BareValue X)
      → on_two or_outcome (Ok (Ok (truth false))) y ≡ Ok (Ok t)
      → (m : Outcome X) × (y ≡ Ok m) × (strict as_truth m ≡ Ok t)
  or_right_is (Ok m) t h = (m, refl, (let e : strict as_truth m ≡ Ok t = cc in e))
  or_right_is (Err x) t h = absurd (no_value x _ h)

  of_and : (p q : Simplified X) (x y : Result (Outcome X) BareName) → Both p x → Both q y
      → Decides (and_or (And (tree_of C p) (tree_of C q)) (known_truth p) q)
      (on_two and_outcome x y)
  of_and p q x y h k = go (known_truth p) refl
    where
      by : (b : Bool) → known_truth p ≡ Some b
          → on_two and_outcome x y ≡ on_two and_outcome (Ok (Ok (truth b))) y
      by b is = ap (λ r. on_two and_outcome r y) (test_is laws C f p x b h.0 is)

      go : (b : Option Bool) → known_truth p ≡ b
          → Decides (and_or (And (tree_of C p) (tree_of C q)) b q) (on_two and_outcome x y)
      go None is =
          λ t has.
          let u = both_given and_outcome x y (Ok t) has in
          absurd (untested p x h.1 is u.0 u.2 (tested u.0 _ _ t (sym u.4)))
      go (Some true) is =
          right (And (tree_of C p) (tree_of C q)) q y (on_two and_outcome x y) k.1
          (λ b. by true is ∙ and_true y (boolean_answer laws C f q y k.0 b))
          (λ t has. and_right_is y t (sym (by true is) ∙ has))
      go (Some false) is =
          subst
          (λ c. Decides (if c then Known (truth false) else Residual (And (tree_of C p) (tree_of C q)))
          (on_two and_outcome x y))
          (sym k.2)
          (subst (Decides (Known (truth false)))
          (sym (by false is ∙ and_false y (none_refused laws C f answers q y k.0 k.2)))
          (decides_value (truth false)))

  of_or : (p q : Simplified X) (x y : Result (Outcome X) BareName) → Both p x → Both q y
      → Decides (or_or (Or (tree_of C p) (tree_of C q)) (known_truth p) q)
      (on_two or_outcome x y)
  of_or p q x y h k = go (known_truth p) refl
    where
      by : (b : Bool) → known_truth p ≡ Some b
          → on_two or_outcome x y ≡ on_two or_outcome (Ok (Ok (truth b))) y
      by b is = ap (λ r. on_two or_outcome r y) (test_is laws C f p x b h.0 is)

      go : (b : Option Bool) → known_truth p ≡ b
          → Decides (or_or (Or (tree_of C p) (tree_of C q)) b q) (on_two or_outcome x y)
      go None is =
          λ t has.
          let u = both_given or_outcome x y (Ok t) has in
          absurd (untested p x h.1 is u.0 u.2 (tested u.0 _ _ t (sym u.4)))
      go (Some true) is =
          subst
          (λ c. Decides (if c then Known (truth true) else Residual (Or (tree_of C p) (tree_of C q)))
          (on_two or_outcome x y))
          (sym k.2)
          (subst (Decides (Known (truth true)))
          (sym (by true is ∙ or_true y (none_refused laws C f answers q y k.0 k.2)))
          (decides_value (truth true)))
      go (Some false) is =
          right (Or (tree_of C p) (tree_of C q)) q y (on_two or_outcome x y) k.1
          (λ b. by false is ∙ or_false y (boolean_answer laws C f q y k.0 b))
          (λ t has. or_right_is y t (sym (by false is) ∙ has))

  -- the same of members or arguments, and of a record's values
  abbrev AllDecide : List (Simplified X) → Result (List (Outcome X)) BareName → Type 0
  AllDecide ps r =
      (ms : List (Outcome X)) (ts : List (BareValue X)) → r ≡ Ok ms → all_values ms ≡ Ok ts
      → all_values (map outcome_of ps) ≡ Ok ts

  abbrev PairsDecide : List (Text × Simplified X) → Result (List (Text × Outcome X)) BareName → Type 0
  PairsDecide ps r =
      (ms : List (Text × Outcome X)) (ts : List (Text × BareValue X)) → r ≡ Ok ms
      → all_pairs ms ≡ Ok ts → all_pairs (pair_outcomes ps) ≡ Ok ts

  no_children : AllDecide [] (Ok [])
  no_children ms ts is v = let e : ms ≡ [] = cc in ap all_values (sym e) ∙ v

  no_pair : PairsDecide [] (Ok [])
  no_pair ms ts is v = let e : ms ≡ [] = cc in ap all_pairs (sym e) ∙ v

  further : (p : Simplified X) (ps : List (Simplified X)) (r : Result (Outcome X) BareName)
      (s : Result (List (Outcome X)) BareName) → Decides p r → AllDecide ps s
      → AllDecide (p ∷ ps) (on_two (λ m ms. m ∷ ms) r s)
  further p ps r s h k ms ts is v =
      let u = both_given (λ m ns. m ∷ ns) r s ms is in
      let gives = sym (ap all_values u.4) ∙ v in
      let w = both_given (λ t us. t ∷ us) u.0 (all_values u.1) ts gives in
      let a = outcome_known p r h u.0 w.0 u.2 w.2 in
      let b = k u.1 w.1 u.3 w.3 in
      (λ i. on_two (λ t us. t ∷ us) (a i) (b i)) ∙ ap Ok (sym w.4)

  further_pair : (j : Text) (p : Simplified X) (ps : List (Text × Simplified X))
      (r : Result (Outcome X) BareName) (s : Result (List (Text × Outcome X)) BareName)
      → Decides p r → PairsDecide ps s
      → PairsDecide ((j, p) ∷ ps) (on_two (λ m ms. (j, m) ∷ ms) r s)
  further_pair j p ps r s h k ms ts is v =
      let u = both_given (λ m ns. (j, m) ∷ ns) r s ms is in
      let gives = sym (ap all_pairs u.4) ∙ v in
      let w = both_given (λ t us. (j, t) ∷ us) u.0 (all_pairs u.1) ts gives in
      let a = outcome_known p r h u.0 w.0 u.2 w.2 in
      let b = k u.1 w.1 u.3 w.3 in
      (λ i. on_two (λ t us. (j, t) ∷ us) (a i) (b i)) ∙ ap Ok (sym w.4)

  of_set : (e : BareExpr) (ps : List (Simplified X)) (r : Result (List (Outcome X)) BareName)
      → AllDecide ps r
      → Decides (known_or e (set_outcome R (map outcome_of ps))) (on_one (set_outcome R) r)
  of_set e ps r h t is =
      let u = one_given (set_outcome R) r (Ok t) is in
      let v = one_given (set_value R) (all_values u.0) t (sym u.2) in
      ap (λ x. known_or e (on_one (set_value R) x)) (h u.0 v.0 u.1 v.1) ∙ ap Known (sym v.2)

  of_record : (e : BareExpr) (ps : List (Text × Simplified X))
      (r : Result (List (Text × Outcome X)) BareName) → PairsDecide ps r
      → Decides (known_or e (record_outcome (pair_outcomes ps)))
      (on_one record_outcome r)
  of_record e ps r h t is =
      let u = one_given record_outcome r (Ok t) is in
      let v = one_given (λ qs. RecordValue (pairs_of qs)) (all_pairs u.0) t (sym u.2) in
      ap (λ x. known_or e (on_one (λ qs. RecordValue (pairs_of qs)) x)) (h u.0 v.0 u.1 v.1)
      ∙ ap Known (sym v.2)

  quiet_calls : (p : Simplified X) → Passing is_no_call p → calls_nothing p ≡ true
  quiet_calls (Known t) h = refl
  quiet_calls (Residual e) h = h

  all_of : (p : Simplified X) (r : Result (Outcome X) BareName)
      → Same p r × (Decides p r × Passing is_no_call p) → Both p r
  all_of p r h = (h.0, h.1.0, quiet_calls p h.1.1)

  -- `g` says what an unknown is made
  module _ (g : Text → Option BareType → Result (Simplified X) ⊥)
      (at_unknown : (n : Text) (t : Option BareType) → Sure Same (g n t) (f n t)) (env : Env)
      (at_bound : (n : Text) (t : Option BareType) → is_some (env n) ≡ true
      → Sure Decides (g n t) (f n t))
      (quiet : (n : Text) (t : Option BareType)
      → Sure (λ p r. Passing is_no_call p) (g n t) (f n t)) where
    abbrev ops : Ops (Simplified X) ⊥
    ops = simplifier_ops R E C

    abbrev make : BareExpr → Result (Simplified X) ⊥
    make = fold_with ops g

    abbrev ev : BareExpr → Result (Outcome X) BareName
    ev = fold_with (evaluator_ops R E) f

    abbrev P : BareExpr → Bool
    P = is_settled_node env

    -- what is settled calls nothing
    calls : (e : BareExpr) → list_all P (preorder e) ≡ true
        → Sure (λ p r. Passing is_no_call p) (make e) (ev e)
    calls e h =
        passed laws C f answers g at_unknown is_no_call env (λ n t is. quiet n t) e
        (weaker P (passes (is_bound_or env is_no_call)) (node_calls env) (preorder e) h)

    with_all : (e : BareExpr) → list_all P (preorder e) ≡ true → Sure Decides (make e) (ev e)
        → Sure Both (make e) (ev e)
    with_all e h d =
        sure_weaker (λ p r. Same p r × (Decides p r × Passing is_no_call p)) Both all_of
        (make e) (ev e)
        (sure_both Same (λ p r. Decides p r × Passing is_no_call p) (make e) (ev e)
        (sound laws C f answers g at_unknown e)
        (sure_both Decides (λ p r. Passing is_no_call p) (make e) (ev e) d (calls e h)))

    -- an operation on one operand
    one : (h : Simplified X → Simplified X) (node : BareExpr → BareExpr) (op : Outcome X → Outcome X)
        → IsStrict op → ((p : Simplified X) → h p ≡ known_or (node (tree_of C p)) (op (outcome_of p)))
        → (e : BareExpr) → Sure Decides (make e) (ev e)
        → Sure Decides (on_one h (make e)) (on_one op (ev e))
    one h node op needs is e d =
        sure_one Decides Decides h (on_one op)
        (λ p r k. subst (λ q. Decides q (on_one op r)) (sym (is p))
        (of_one (node (tree_of C p)) op needs p r k))
        (make e) (ev e) d

    mutual
      pub decided : (e : BareExpr) → list_all P (preorder e) ≡ true → Sure Decides (make e) (ev e)
      decided (Lit l) h = decides_value (LitValue l)
      decided (Var v) h = absurd (false≢true h)
      decided (Slot s) h = absurd (false≢true h)
      decided (Unknown n t) h =
          at_bound n t (and_parts (is_some (env n)) true (and_parts (is_some (env n) && true) true h).0).0
      decided (If a b c) h =
          let p = behind P (If a b c) (preorder a ∷ preorder b ∷ preorder c ∷ []) h in
          sure_three Both Decides ops.if_of (on_three if_outcome) of_if
          (make a) (make b) (make c) (ev a) (ev b) (ev c)
          (with_all a p.0 (decided a p.0)) (with_all b p.1.0 (decided b p.1.0))
          (with_all c p.1.1.0 (decided c p.1.1.0))
      decided (And a b) h =
          let p = behind P (And a b) (preorder a ∷ preorder b ∷ []) h in
          sure_two Both Both Decides ops.and_of (on_two and_outcome) of_and
          (make a) (make b) (ev a) (ev b)
          (with_all a p.0 (decided a p.0)) (with_all b p.1.0 (decided b p.1.0))
      decided (Or a b) h =
          let p = behind P (Or a b) (preorder a ∷ preorder b ∷ []) h in
          sure_two Both Both Decides ops.or_of (on_two or_outcome) of_or
          (make a) (make b) (ev a) (ev b)
          (with_all a p.0 (decided a p.0)) (with_all b p.1.0 (decided b p.1.0))
      decided (UnaryApp u a) h =
          one (ops.unary_of u) (UnaryApp u) (strict (apply_one u)) (strict_is (apply_one u))
          (λ p. refl) a (decided a (only P (UnaryApp u a) a h))
      decided (BinaryApp u a b) h =
          let p = behind P (BinaryApp u a b) (preorder a ∷ preorder b ∷ []) h in
          sure_two Decides Decides Decides (ops.binary_of u)
          (on_two (strict_two (apply_two R E u)))
          (λ q s x y k l.
          of_two (BinaryApp u (tree_of C q) (tree_of C s)) (apply_two R E u) q s x y k l)
          (make a) (make b) (ev a) (ev b) (decided a p.0) (decided b p.1.0)
      decided (ExtensionFunctionApp n es) h = absurd (false≢true h)
      decided (GetAttr a k) h =
          one (λ p. ops.get_of p k) (λ e. GetAttr e k) (strict (get_in k)) (strict_is (get_in k))
          (λ p. refl) a (decided a (only P (GetAttr a k) a h))
      decided (HasAttr a k ks) h =
          one (λ p. ops.has_of p k ks) (λ e. HasAttr e k ks) (λ m. has_path m k ks) (path_is k ks)
          (λ p. refl) a (decided a (only P (HasAttr a k ks) a h))
      decided (Like a p) h =
          one (λ q. ops.like_of q p) (λ e. Like e p) (strict (like_in p)) (strict_is (like_in p))
          (λ q. refl) a (decided a (only P (Like a p) a h))
      decided (Set es) h =
          sure_one AllDecide Decides ops.set_of (on_one (set_outcome R))
          (λ ps. of_set (Set (child_trees C ps)) ps)
          (fold_all ops g es) (fold_all (evaluator_ops R E) f es)
          (all_decided es (behind P (Set es) (rows es) h))
      decided (Record fs) h =
          sure_one PairsDecide Decides ops.record_of (on_one record_outcome)
          (λ ps. of_record (Record (child_fields C ps)) ps)
          (fold_fields ops g fs) (fold_fields (evaluator_ops R E) f fs)
          (fields_decided fs (behind P (Record fs) (calls_values fs) h))
      decided (Is a n) h =
          one (λ p. ops.is_of p n) (λ e. Is e n) (strict (is_in n)) (strict_is (is_in n))
          (λ p. refl) a (decided a (only P (Is a n) a h))

      all_decided : (es : BareExprs) → AllPass P (rows es)
          → Sure AllDecide (fold_all ops g es) (fold_all (evaluator_ops R E) f es)
      all_decided no_trees h = no_children
      all_decided (tree e es) h =
          sure_two Decides AllDecide AllDecide (λ p ps. p ∷ ps) (on_two (λ m ms. m ∷ ms)) further
          (make e) (fold_all ops g es) (ev e) (fold_all (evaluator_ops R E) f es)
          (decided e h.0) (all_decided es h.1)

      fields_decided : (fs : BareFields) → AllPass P (calls_values fs)
          → Sure PairsDecide (fold_fields ops g fs) (fold_fields (evaluator_ops R E) f fs)
      fields_decided no_fields h = no_pair
      fields_decided (field j e fs) h =
          sure_two Decides PairsDecide PairsDecide (λ p ps. (j, p) ∷ ps)
          (on_two (λ m ms. (j, m) ∷ ms)) (further_pair j)
          (make e) (fold_fields ops g fs) (ev e) (fold_fields (evaluator_ops R E) f fs)
          (decided e h.0) (fields_decided fs h.1)
