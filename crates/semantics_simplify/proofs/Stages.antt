-- To simplify with values for some unknowns, and then with values for further ones, is to simplify
-- with both: one lemma a kind, and one induction over trees.
use Rattle.std.proofs.Common.{◌≡◌, refl, sym, ◌∙◌, ap, subst, Bool, true, false, List, [], ◌∷◌, map, Option, Some, None, Result, Ok, Err}
use Rattle.std.specs.List.{AllByRecursion}
use Rattle.std.specs.Option.{is_some, option_or}
use Rattle.std.specs.Prelude.{if◌then◌else◌}
use Rattle.std.specs.declared.cmp.Ordering.{Ordering}
use Rattle.cedar_names.specs.Names.{BareName}
use Rattle.cedar_terms.specs.Types.{BareType}
use Rattle.cedar_terms.specs.declared.ops.BinaryOp.{BinaryOp}
use Rattle.cedar_builders.specs.BareExpr.{Text, BareExpr, Lit, Var, Slot, Unknown, If, And, Or, UnaryApp, BinaryApp, ExtensionFunctionApp, GetAttr, HasAttr, Like, Set, Record, Is, BareExprs, no_trees, tree, BareFields, no_fields, field}
use Rattle.cedar_builders.specs.Ops.{Ops}
use Rattle.cedar_builders.specs.Environment.{Env, empty, bound, fold}
use Rattle.cedar_builders.specs.Fold.{on_one, on_two, on_three, and_then, fold_all, fold_fields}
use Rattle.cedar_builders.specs.Laws.{both}
use Rattle.cedar_builders.specs.Trees.{sure}
use Rattle.cedar_builders.specs.Walks.{preorder}
use Rattle.semantics_values.specs.BareValue.{BareCall, BareValue, RecordValue, pairs_of}
use Rattle.semantics_values.specs.Laws.{BindsPlainValues}
use Rattle.semantics_eval.specs.Outcomes.{Outcome, truth, strict, strict_two}
use Rattle.semantics_eval.specs.Attributes.{get_in, has_path, like_in, is_in}
use Rattle.semantics_eval.specs.Operators.{apply_one, apply_two}
use Rattle.semantics_eval.specs.Rows.{all_values, all_pairs, set_value, set_outcome, record_outcome}
use Rattle.semantics_simplify.specs.Asks.{passes, is_bound_or, is_no_call}
use Rattle.semantics_simplify.specs.Simplified.{Simplified, Known, Residual, tree_of, child_trees, child_fields, outcome_of, pair_outcomes, known_or, known_truth, calls_nothing, is_boolean}
use Rattle.semantics_simplify.specs.Simplifier.{branch_or, and_or, or_or, simplifier_ops}
use Rattle.semantics_simplify.specs.Laws.{StagesAreOne, SimplifiedTwice}
use Rattle.semantics_simplify.specs.Plain.{IsPlain}
use Rattle.semantics_simplify.proofs.Values.{IsPlainTree, EvaluatorLaws}
use Rattle.semantics_simplify.proofs.Calls.{weaker}
use Rattle.semantics_simplify.proofs.Means.{no_value, IsStrict, strict_is, path_is, two_given, one_given, both_given, known_test, Means}
use Rattle.semantics_simplify.proofs.Asks.{Passing}
use Rattle.semantics_simplify.specs.Sure.{Sure, sure_other, sure_is, sure_one, sure_then, sure_two, sure_three, sure_both, sure_weaker}
use Rattle.semantics_simplify.proofs.Known.{or_with_true, bound_known, f_in, value_made, sound_in, passed_in}
use Rattle.semantics_simplify.proofs.BooleanKinds.{IfBoolean, boolean_made}

-- what is no call is none where unknowns are bound
still_no_call : (env : Env) (e : BareExpr) → passes is_no_call e ≡ true
    → passes (is_bound_or env is_no_call) e ≡ true
still_no_call env (Unknown n t) h = or_with_true (is_some (env n))
still_no_call env (ExtensionFunctionApp n es) h = h
still_no_call env e h = refl

outcome_is : {X : Type 0} (p : Simplified X) (t : BareValue X) → outcome_of p ≡ Ok t → p ≡ Known t
outcome_is (Known u) t h = let e : u ≡ t = cc in ap Known e
outcome_is (Residual e) t h = absurd (no_value _ t h)

module _ {X : Type 0} {R : X → X → Ordering} {E : X → X → Bool} (laws : EvaluatorLaws R E)
    (C : X → BareCall) (env1 env2 : Env) (plain1 : BindsPlainValues C env1)
    (plain2 : BindsPlainValues C env2) where
  abbrev ops : Ops (Simplified X) ⊥
  ops = simplifier_ops R E C

  -- what a tree is made first, then, and at once
  abbrev first : BareExpr → Result (Simplified X) ⊥
  first = fold ops env1

  abbrev second : BareExpr → Result (Simplified X) ⊥
  second = fold ops env2

  abbrev once : BareExpr → Result (Simplified X) ⊥
  once = fold ops (both env1 env2)

  abbrev g2 : Text → Option BareType → Result (Simplified X) ⊥
  g2 n t = bound ops (env2 n) n t

  abbrev g12 : Text → Option BareType → Result (Simplified X) ⊥
  g12 n t = bound ops (both env1 env2 n) n t

  -- a value that is known is plain
  abbrev IsPlainSimplified : Simplified X → Type 0
  IsPlainSimplified (Known t) = IsPlain R t
  IsPlainSimplified (Residual e) = Unit {0}

  -- its tree is then simplified to the other answer
  abbrev Later : Simplified X → Result (Simplified X) ⊥ → Type 0
  Later p y = IsPlainSimplified p → second (tree_of C p) ≡ y

  abbrev Both : Simplified X → Result (Simplified X) ⊥ → Type 0
  Both p y = IsPlainSimplified p × (second (tree_of C p) ≡ y)

  means_plain : (p : Simplified X) (r : Result (Outcome X) BareName)
      → Means laws C (f_in laws C env1 plain1) p r → IsPlainSimplified p
  means_plain (Known t) r h = (h.value t refl).0
  means_plain (Residual e) r h = tt

  with_plain : (e : BareExpr) → Sure Later (first e) (once e) → Sure Both (first e) (once e)
  with_plain e h =
      let x = first e in
      let m = sure_weaker (Means laws C (f_in laws C env1 plain1)) (λ p r. IsPlainSimplified p) means_plain
      x _ (sound_in laws C env1 plain1 e) in
      sure_weaker (λ p y. IsPlainSimplified p × Later p y) Both (λ p y k. (k.0, k.1 k.0)) x (once e)
      (sure_both (λ p y. IsPlainSimplified p) Later x (once e) (sure_other IsPlainSimplified x _ (once e) m) h)

  -- a known value is simplified to itself
  again : (p : Simplified X) (t : BareValue X) → outcome_of p ≡ Ok t → IsPlainSimplified p
      → second (tree_of C p) ≡ Ok p
  again (Known u) t is h = value_made laws C env2 plain2 u h
  again (Residual e) t is h = absurd (no_value _ t is)

  later_or : (e : BareExpr) (m : Outcome X) (y : Result (Simplified X) ⊥) → second e ≡ y
      → ((t : BareValue X) → m ≡ Ok t → y ≡ Ok (Known t)) → Later (known_or e m) y
  later_or e (Ok t) y h k = λ plain. value_made laws C env2 plain2 t plain ∙ sym (k t refl)
  later_or e (Err x) y h k = λ plain. h

  later_choose : (c : Bool) (p : Simplified X) (e : BareExpr) (y : Result (Simplified X) ⊥) → second e ≡ y
      → (c ≡ true → Later p y) → Later (if c then p else Residual e) y
  later_choose true p e y h k = k refl
  later_choose false p e y h k = λ plain. h

  -- an operation on one operand
  one : (h : Simplified X → Simplified X) (node : BareExpr → BareExpr) (w : Outcome X → Outcome X)
      → IsStrict w → ((p : Simplified X) → h p ≡ known_or (node (tree_of C p)) (w (outcome_of p)))
      → ((e : BareExpr) → second (node e) ≡ on_one h (second e))
      → (e : BareExpr) → Sure Later (first e) (once e)
      → Sure Later (on_one h (first e)) (on_one h (once e))
  one h node w needs is folds e l =
      sure_one Both Later h (on_one h)
      (λ p y k.
      subst (λ q. Later q (on_one h y)) (sym (is p))
      (later_or (node (tree_of C p)) (w (outcome_of p)) (on_one h y)
      (folds (tree_of C p) ∙ ap (on_one h) k.1)
      (λ t v.
      let u = needs (outcome_of p) t v in
      ap (on_one h) (sym k.1 ∙ again p u.0 u.1 k.0)
      ∙ (ap Ok (is p) ∙ ap (λ m. Ok (known_or (node (tree_of C p)) m)) v))))
      (first e) (once e) (with_plain e l)

  of_two : (u : BinaryOp) (p q : Simplified X) (y z : Result (Simplified X) ⊥) → Both p y → Both q z
      → Later (ops.binary_of u p q) (on_two (ops.binary_of u) y z)
  of_two u p q y z h k =
      later_or (BinaryApp u (tree_of C p) (tree_of C q))
      (strict_two (apply_two R E u) (outcome_of p) (outcome_of q)) (on_two (ops.binary_of u) y z)
      (λ i. on_two (ops.binary_of u) (h.1 i) (k.1 i))
      (λ t v.
      let w = two_given (apply_two R E u) (outcome_of p) (outcome_of q) t v in
      let a = sym h.1 ∙ again p w.0 w.2 h.0 in
      let b = sym k.1 ∙ again q w.1 w.3 k.0 in
      (λ i. on_two (ops.binary_of u) (a i) (b i))
      ∙ ap (λ m. Ok (known_or (BinaryApp u (tree_of C p) (tree_of C q)) m)) v)

  -- it calls nothing, or can only be a Boolean, if there is one
  abbrev Quiet : Result (Simplified X) ⊥ → Type 0
  Quiet (Ok p) = calls_nothing p ≡ true
  Quiet (Err e) = ⊥

  passing_quiet : (x : Result (Simplified X) ⊥) (r : Result (Outcome X) BareName)
      → Sure (λ p s. Passing is_no_call p) x r → Quiet x
  passing_quiet (Ok (Known t)) r h = refl
  passing_quiet (Ok (Residual e)) r h = h
  passing_quiet (Err e) r h = absurd h

  quiet : (p : Simplified X) (y : Result (Simplified X) ⊥) → Both p y → calls_nothing p ≡ true → Quiet y
  quiet (Known t) y h c = subst Quiet (sym (value_made laws C env2 plain2 t h.0) ∙ h.1) refl
  quiet (Residual e) y h c =
      subst Quiet h.1
      (passing_quiet (second e) _
      (passed_in laws C env2 plain2 is_no_call e
      (weaker (passes is_no_call) (passes (is_bound_or env2 is_no_call)) (still_no_call env2)
      (preorder e) c)))

  boolean : (p : Simplified X) (y : Result (Simplified X) ⊥) → Both p y → is_boolean p ≡ true → IfBoolean y
  boolean (Known t) y h b = subst IfBoolean (sym (value_made laws C env2 plain2 t h.0) ∙ h.1) b
  boolean (Residual e) y h b = subst IfBoolean h.1 (boolean_made R E C g2 e b)

  first_made : (p : Simplified X) (y z : Result (Simplified X) ⊥) → known_truth p ≡ Some true → Quiet z
      → on_three ops.if_of (Ok p) y z ≡ y
  first_made p (Ok q) (Ok s) is c =
      ap (λ b. Ok (branch_or (If (tree_of C p) (tree_of C q) (tree_of C s)) b q s)) is
      ∙ ap (λ b. Ok (if b then q else Residual (If (tree_of C p) (tree_of C q) (tree_of C s)))) c
  first_made p (Ok q) (Err e) is c = absurd c
  first_made p (Err e) z is c = absurd e

  second_made : (p : Simplified X) (y z : Result (Simplified X) ⊥) → known_truth p ≡ Some false → Quiet y
      → on_three ops.if_of (Ok p) y z ≡ z
  second_made p (Ok q) (Ok s) is c =
      ap (λ b. Ok (branch_or (If (tree_of C p) (tree_of C q) (tree_of C s)) b q s)) is
      ∙ ap (λ b. Ok (if b then s else Residual (If (tree_of C p) (tree_of C q) (tree_of C s)))) c
  second_made p (Ok q) (Err e) is c = absurd e
  second_made p (Err e) z is c = absurd e

  and_right_made : (p : Simplified X) (y : Result (Simplified X) ⊥) → known_truth p ≡ Some true → IfBoolean y
      → on_two ops.and_of (Ok p) y ≡ y
  and_right_made p (Ok q) is c =
      ap (λ b. Ok (and_or (And (tree_of C p) (tree_of C q)) b q)) is
      ∙ ap (λ b. Ok (if b then q else Residual (And (tree_of C p) (tree_of C q)))) c
  and_right_made p (Err e) is c = absurd e

  and_false_made : (p : Simplified X) (y : Result (Simplified X) ⊥) → known_truth p ≡ Some false → Quiet y
      → on_two ops.and_of (Ok p) y ≡ Ok (Known (truth false))
  and_false_made p (Ok q) is c =
      ap (λ b. Ok (and_or (And (tree_of C p) (tree_of C q)) b q)) is
      ∙ ap (λ b. Ok (if b then Known (truth false) else Residual (And (tree_of C p) (tree_of C q)))) c
  and_false_made p (Err e) is c = absurd e

  or_true_made : (p : Simplified X) (y : Result (Simplified X) ⊥) → known_truth p ≡ Some true → Quiet y
      → on_two ops.or_of (Ok p) y ≡ Ok (Known (truth true))
  or_true_made p (Ok q) is c =
      ap (λ b. Ok (or_or (Or (tree_of C p) (tree_of C q)) b q)) is
      ∙ ap (λ b. Ok (if b then Known (truth true) else Residual (Or (tree_of C p) (tree_of C q)))) c
  or_true_made p (Err e) is c = absurd e

  or_right_made : (p : Simplified X) (y : Result (Simplified X) ⊥) → known_truth p ≡ Some false → IfBoolean y
      → on_two ops.or_of (Ok p) y ≡ y
  or_right_made p (Ok q) is c =
      ap (λ b. Ok (or_or (Or (tree_of C p) (tree_of C q)) b q)) is
      ∙ ap (λ b. Ok (if b then q else Residual (Or (tree_of C p) (tree_of C q)))) c
  or_right_made p (Err e) is c = absurd e

  -- a test that is known is made itself
  test_made : (p : Simplified X) (y : Result (Simplified X) ⊥) (b : Bool) → Both p y → known_truth p ≡ Some b
      → y ≡ Ok p
  test_made p y b h is = sym h.1 ∙ again p (truth b) (ap outcome_of (known_test p b is)) h.0

  of_if : (p q s : Simplified X) (x y z : Result (Simplified X) ⊥) → Both p x → Both q y → Both s z
      → Later (ops.if_of p q s) (on_three ops.if_of x y z)
  of_if p q s x y z h k l = go (known_truth p) refl
    where
      as_node : second (If (tree_of C p) (tree_of C q) (tree_of C s)) ≡ on_three ops.if_of x y z
      as_node = λ i. on_three ops.if_of (h.1 i) (k.1 i) (l.1 i)

      go : (b : Option Bool) → known_truth p ≡ b
          → Later (branch_or (If (tree_of C p) (tree_of C q) (tree_of C s)) b q s)
          (on_three ops.if_of x y z)
      go None is = λ plain. as_node
      go (Some true) is =
          later_choose (calls_nothing s) q _ _ as_node
          (λ c plain. k.1 ∙ sym
          (ap (λ w. on_three ops.if_of w y z) (test_made p x true h is)
          ∙ first_made p y z is (quiet s z l c)))
      go (Some false) is =
          later_choose (calls_nothing q) s _ _ as_node
          (λ c plain. l.1 ∙ sym
          (ap (λ w. on_three ops.if_of w y z) (test_made p x false h is)
          ∙ second_made p y z is (quiet q y k c)))

  of_and : (p q : Simplified X) (x y : Result (Simplified X) ⊥) → Both p x → Both q y
      → Later (ops.and_of p q) (on_two ops.and_of x y)
  of_and p q x y h k = go (known_truth p) refl
    where
      as_node : second (And (tree_of C p) (tree_of C q)) ≡ on_two ops.and_of x y
      as_node = λ i. on_two ops.and_of (h.1 i) (k.1 i)

      go : (b : Option Bool) → known_truth p ≡ b
          → Later (and_or (And (tree_of C p) (tree_of C q)) b q) (on_two ops.and_of x y)
      go None is = λ plain. as_node
      go (Some true) is =
          later_choose (is_boolean q) q _ _ as_node
          (λ c plain. k.1 ∙ sym
          (ap (λ w. on_two ops.and_of w y) (test_made p x true h is)
          ∙ and_right_made p y is (boolean q y k c)))
      go (Some false) is =
          later_choose (calls_nothing q) (Known (truth false)) _ _ as_node
          (λ c plain. sym
          (ap (λ w. on_two ops.and_of w y) (test_made p x false h is)
          ∙ and_false_made p y is (quiet q y k c)))

  of_or : (p q : Simplified X) (x y : Result (Simplified X) ⊥) → Both p x → Both q y
      → Later (ops.or_of p q) (on_two ops.or_of x y)
  of_or p q x y h k = go (known_truth p) refl
    where
      as_node : second (Or (tree_of C p) (tree_of C q)) ≡ on_two ops.or_of x y
      as_node = λ i. on_two ops.or_of (h.1 i) (k.1 i)

      go : (b : Option Bool) → known_truth p ≡ b
          → Later (or_or (Or (tree_of C p) (tree_of C q)) b q) (on_two ops.or_of x y)
      go None is = λ plain. as_node
      go (Some true) is =
          later_choose (calls_nothing q) (Known (truth true)) _ _ as_node
          (λ c plain. sym
          (ap (λ w. on_two ops.or_of w y) (test_made p x true h is)
          ∙ or_true_made p y is (quiet q y k c)))
      go (Some false) is =
          later_choose (is_boolean q) q _ _ as_node
          (λ c plain. k.1 ∙ sym
          (ap (λ w. on_two ops.or_of w y) (test_made p x false h is)
          ∙ or_right_made p y is (boolean q y k c)))

  -- the same of members or arguments, and of a record's values
  abbrev AllLater : List (Simplified X) → Result (List (Simplified X)) ⊥ → Type 0
  AllLater ps ys = AllByRecursion IsPlainSimplified ps × (fold_all ops g2 (child_trees C ps) ≡ ys)

  abbrev PairsLater : List (Text × Simplified X) → Result (List (Text × Simplified X)) ⊥ → Type 0
  PairsLater ps ys =
      AllByRecursion (λ p. IsPlainSimplified p.1) ps × (fold_fields ops g2 (child_fields C ps) ≡ ys)

  all_again : (ps : List (Simplified X)) (ts : List (BareValue X)) → AllByRecursion IsPlainSimplified ps
      → all_values (map outcome_of ps) ≡ Ok ts → fold_all ops g2 (child_trees C ps) ≡ Ok ps
  all_again [] ts h is = refl
  all_again (p ∷ ps) ts h is =
      let u = both_given (λ t us. t ∷ us) (outcome_of p) (all_values (map outcome_of ps)) ts is in
      let here = again p u.0 u.2 h.0 in
      let rest = all_again ps u.1 h.1 u.3 in
      λ i. on_two (λ q qs. q ∷ qs) (here i) (rest i)

  pairs_again : (ps : List (Text × Simplified X)) (ts : List (Text × BareValue X))
      → AllByRecursion (λ p. IsPlainSimplified p.1) ps → all_pairs (pair_outcomes ps) ≡ Ok ts
      → fold_fields ops g2 (child_fields C ps) ≡ Ok ps
  pairs_again [] ts h is = refl
  pairs_again (p ∷ ps) ts h is =
      let u = both_given (λ t us. (p.0, t) ∷ us) (outcome_of p.1) (all_pairs (pair_outcomes ps))
      ts is in
      let here = again p.1 u.0 u.2 h.0 in
      let rest = pairs_again ps u.1 h.1 u.3 in
      λ i. on_two (λ q qs. (p.0, q) ∷ qs) (here i) (rest i)

  of_set : (ps : List (Simplified X)) (ys : Result (List (Simplified X)) ⊥) → AllLater ps ys
      → Later (ops.set_of ps) (on_one ops.set_of ys)
  of_set ps ys h =
      later_or (Set (child_trees C ps)) (set_outcome R (map outcome_of ps)) (on_one ops.set_of ys)
      (ap (on_one ops.set_of) h.1)
      (λ t v.
      let u = one_given (set_value R) (all_values (map outcome_of ps)) t v in
      ap (on_one ops.set_of) (sym h.1 ∙ all_again ps u.0 h.0 u.1)
      ∙ ap (λ m. Ok (known_or (Set (child_trees C ps)) m)) v)

  of_record : (ps : List (Text × Simplified X)) (ys : Result (List (Text × Simplified X)) ⊥) → PairsLater ps ys
      → Later (ops.record_of ps) (on_one ops.record_of ys)
  of_record ps ys h =
      later_or (Record (child_fields C ps)) (record_outcome (pair_outcomes ps))
      (on_one ops.record_of ys) (ap (on_one ops.record_of) h.1)
      (λ t v.
      let u = one_given (λ qs. RecordValue (pairs_of qs)) (all_pairs (pair_outcomes ps)) t v in
      ap (on_one ops.record_of) (sym h.1 ∙ pairs_again ps u.0 h.0 u.1)
      ∙ ap (λ m. Ok (known_or (Record (child_fields C ps)) m)) v)

  at_unknown : (x : Option (BareType × BareExpr))
      → ((r : BareType × BareExpr) → x ≡ Some r → IsPlainTree C r.1)
      → (n : Text) (t : Option BareType)
      → Sure Later (bound ops x n t) (bound ops (option_or x (env2 n)) n t)
  at_unknown None plain n t = λ plain. refl
  at_unknown (Some r) plain n t =
      let k = bound_known laws C r (plain r refl) n t in
      subst (λ x. Sure Later x (bound ops (Some r) n t)) (sym k.2)
      (λ p. value_made laws C env2 plain2 k.0 p ∙ sym k.2)

  mutual
    later : (e : BareExpr) → Sure Later (first e) (once e)
    later (Lit l) = λ plain. refl
    later (Var v) = λ plain. refl
    later (Slot s) = λ plain. refl
    later (Unknown n t) = at_unknown (env1 n) (plain1 n) n t
    later (If a b c) =
        sure_three Both Later ops.if_of (on_three ops.if_of) of_if
        (first a) (first b) (first c) (once a) (once b) (once c)
        (with_plain a (later a)) (with_plain b (later b)) (with_plain c (later c))
    later (And a b) =
        sure_two Both Both Later ops.and_of (on_two ops.and_of) of_and
        (first a) (first b) (once a) (once b) (with_plain a (later a)) (with_plain b (later b))
    later (Or a b) =
        sure_two Both Both Later ops.or_of (on_two ops.or_of) of_or
        (first a) (first b) (once a) (once b) (with_plain a (later a)) (with_plain b (later b))
    later (UnaryApp u a) =
        one (ops.unary_of u) (UnaryApp u) (strict (apply_one u)) (strict_is (apply_one u))
        (λ p. refl) (λ e. refl) a (later a)
    later (BinaryApp u a b) =
        sure_two Both Both Later (ops.binary_of u) (on_two (ops.binary_of u)) (of_two u)
        (first a) (first b) (once a) (once b) (with_plain a (later a)) (with_plain b (later b))
    later (ExtensionFunctionApp n es) =
        sure_then AllLater Later (λ ps. Residual (ExtensionFunctionApp n (child_trees C ps)))
        (and_then (ops.call_of n)) (λ ps ys h plain. ap (and_then (ops.call_of n)) h.1)
        (fold_all ops (λ m t. bound ops (env1 m) m t) es) (fold_all ops g12 es) (all_later es)
    later (GetAttr a k) =
        one (λ p. ops.get_of p k) (λ e. GetAttr e k) (strict (get_in k)) (strict_is (get_in k))
        (λ p. refl) (λ e. refl) a (later a)
    later (HasAttr a k ks) =
        one (λ p. ops.has_of p k ks) (λ e. HasAttr e k ks) (λ m. has_path m k ks) (path_is k ks)
        (λ p. refl) (λ e. refl) a (later a)
    later (Like a m) =
        one (λ p. ops.like_of p m) (λ e. Like e m) (strict (like_in m)) (strict_is (like_in m))
        (λ p. refl) (λ e. refl) a (later a)
    later (Set es) =
        sure_one AllLater Later ops.set_of (on_one ops.set_of) of_set
        (fold_all ops (λ m t. bound ops (env1 m) m t) es) (fold_all ops g12 es) (all_later es)
    later (Record fs) =
        sure_one PairsLater Later ops.record_of (on_one ops.record_of) of_record
        (fold_fields ops (λ m t. bound ops (env1 m) m t) fs) (fold_fields ops g12 fs)
        (fields_later fs)
    later (Is a n) =
        one (λ p. ops.is_of p n) (λ e. Is e n) (strict (is_in n)) (strict_is (is_in n))
        (λ p. refl) (λ e. refl) a (later a)

    all_later : (es : BareExprs)
        → Sure AllLater (fold_all ops (λ m t. bound ops (env1 m) m t) es) (fold_all ops g12 es)
    all_later no_trees = (tt, refl)
    all_later (tree e es) =
        sure_two Both AllLater AllLater (λ p ps. p ∷ ps) (on_two (λ p ps. p ∷ ps))
        (λ p ps y ys h k. ((h.0, k.0), λ i. on_two (λ q qs. q ∷ qs) (h.1 i) (k.1 i)))
        (first e) (fold_all ops (λ m t. bound ops (env1 m) m t) es) (once e) (fold_all ops g12 es)
        (with_plain e (later e)) (all_later es)

    fields_later : (fs : BareFields)
        → Sure PairsLater (fold_fields ops (λ m t. bound ops (env1 m) m t) fs)
        (fold_fields ops g12 fs)
    fields_later no_fields = (tt, refl)
    fields_later (field j e fs) =
        sure_two Both PairsLater PairsLater (λ p ps. (j, p) ∷ ps) (on_two (λ p ps. (j, p) ∷ ps))
        (λ p ps y ys h k. ((h.0, k.0), λ i. on_two (λ q qs. (j, q) ∷ qs) (h.1 i) (k.1 i)))
        (first e) (fold_fields ops (λ m t. bound ops (env1 m) m t) fs) (once e)
        (fold_fields ops g12 fs) (with_plain e (later e)) (fields_later fs)

  made_later : (e : BareExpr) → second (tree_of C (sure (first e))) ≡ once e
  made_later e = (sure_is Both (first e) (once e) (with_plain e (later e))).1

module _ {X : Type 0} {R : X → X → Ordering} {E : X → X → Bool} (laws : EvaluatorLaws R E) where
  pub stages_are_one : StagesAreOne R E
  stages_are_one C env1 env2 plain1 plain2 e = ap sure (made_later laws C env1 env2 plain1 plain2 e)

  none_bound : (C : X → BareCall) → BindsPlainValues C empty
  none_bound C n r is = absurd (none_is r is)
    where
      none_is : (r : BareType × BareExpr) → None ≡ Some r → ⊥
      none_is r is = cc

  pub simplified_twice : SimplifiedTwice R E
  simplified_twice C e = stages_are_one C empty empty (none_bound C) (none_bound C) e
