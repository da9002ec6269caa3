-- A part that means what an evaluator makes of a tree, and what keeps it: one lemma a kind.
use Rattle.std.proofs.Common.{◌≡◌, refl, sym, ◌∙◌, ap, subst, Bool, true, false, List, [], ◌∷◌, map, Option, Some, None, Result, Ok, Err}
use Rattle.std.specs.List.{AllByRecursion}
use Rattle.std.specs.Prelude.{is_some, if◌then◌else◌}
use Rattle.std.specs.declared.cmp.Ordering.{Ordering}
use Rattle.std.proofs.lemmas.Bool.{false≢true}
use Rattle.cedar_names.specs.Names.{BareName}
use Rattle.cedar_terms.specs.Literals.{BoolLit}
use Rattle.cedar_terms.specs.Types.{BareType}
use Rattle.cedar_builders.specs.BareExpr.{Text, BareExpr, If, And, Or, ExtensionFunctionApp, Set, Record}
use Rattle.cedar_builders.specs.Fold.{on_one, on_two, on_three, and_then, fold_with, fold_all, fold_fields}
use Rattle.semantics_values.specs.BareValue.{BareCall, BareValue, LitValue, RecordValue, pairs_of}
use Rattle.semantics_values.specs.ValueExpr.{value_expr}
use Rattle.semantics_eval.specs.Outcomes.{Open, Outcome, truth, truth_of, if_outcome, and_outcome, or_outcome}
use Rattle.semantics_eval.specs.Rows.{all_values, all_pairs, set_value, set_outcome, record_outcome}
use Rattle.semantics_simplify.specs.Laws.{AsksByChildren}
use Rattle.semantics_simplify.specs.Simplified.{Simplified, Known, Residual, tree_of, child_trees, child_fields, outcome_of, pair_outcomes, known_or, known_truth, calls_nothing, is_boolean}
use Rattle.semantics_simplify.specs.Simplifier.{branch_or, and_or, or_or}
use Rattle.semantics_request.specs.Evaluator.{then_two, path_by}
use Rattle.semantics_request.proofs.Answered.{Answers, ops_by}
use Rattle.semantics_request.proofs.Outcomes.{IsAnswer, answered}
use Rattle.semantics_simplify.specs.Plain.{IsPlain, literal, IfPlain, plain_set, plain_record}
use Rattle.semantics_request.proofs.Truths.{IfTruth, AreTruths, boolean}
use Rattle.semantics_request.proofs.Values.{values_ok, pairs_ok, EvaluatorLaws, evaluates}

pub no_value : {A F : Type 0} (e : F) (a : A) → Err e ≡ Ok a → ⊥
no_value e a h = cc

-- ---- what an outcome that is a value says of the outcomes that it was made of

module _ {X : Type 0} where
  -- the operation asks for a value
  abbrev pub IsStrict : (Outcome X → Outcome X) → Type 0
  IsStrict op = (m : Outcome X) (t : BareValue X) → op m ≡ Ok t → (u : BareValue X) × (m ≡ Ok u)

  pub then_is : (f : BareValue X → Outcome X) → IsStrict (and_then f)
  then_is f (Ok u) t h = (u, refl)
  then_is f (Err e) t h = absurd (no_value e t h)

  pub path_is_strict : (has get : Text → BareValue X → Outcome X) (k : Text) (ks : List Text)
      → IsStrict (λ m. path_by has get m k ks)
  path_is_strict has get k ks (Ok u) t h = (u, refl)
  path_is_strict has get k [] (Err e) t h = absurd (no_value e t h)
  path_is_strict has get k (j ∷ js) (Err e) t h = absurd (no_value e t h)

  pub two_given : (f : BareValue X → BareValue X → Outcome X) (m n : Outcome X)
      (t : BareValue X) → then_two f m n ≡ Ok t
      → (u : BareValue X) × (v : BareValue X) × (m ≡ Ok u) × (n ≡ Ok v)
  two_given f (Ok u) (Ok v) t h = (u, v, refl, refl)
  two_given f (Ok u) (Err e) t h = absurd (no_value e t h)
  two_given f (Err e) n t h = absurd (no_value e t h)

pub one_given : {A D F : Type 0} (f : A → D) (x : Result A F) (d : D) → on_one f x ≡ Ok d
    → (a : A) × (x ≡ Ok a) × (d ≡ f a)
one_given f (Ok a) d h = (a, refl, (let e : d ≡ f a = cc in e))
one_given f (Err e) d h = absurd (no_value e d h)

pub both_given : {A B D F : Type 0} (f : A → B → D) (x : Result A F) (y : Result B F) (d : D)
    → on_two f x y ≡ Ok d → (a : A) × (b : B) × (x ≡ Ok a) × (y ≡ Ok b) × (d ≡ f a b)
both_given f (Ok a) (Ok b) d h = (a, b, refl, refl, (let e : d ≡ f a b = cc in e))
both_given f (Ok a) (Err e) d h = absurd (no_value e d h)
both_given f (Err e) y d h = absurd (no_value e d h)

-- ---- what `if`, `and` and `or` make after a test that is known

module _ {X : Type 0} where
  pub first_chosen : (r s : Result (Outcome X) BareName) → IsAnswer s
      → on_three if_outcome (Ok (Ok (truth true))) r s ≡ r
  first_chosen (Ok m) (Ok n) a = refl
  first_chosen (Ok m) (Err x) a = absurd a
  first_chosen (Err x) s a = refl

  pub second_chosen : (r s : Result (Outcome X) BareName) → IsAnswer r
      → on_three if_outcome (Ok (Ok (truth false))) r s ≡ s
  second_chosen (Ok m) (Ok n) a = refl
  second_chosen (Ok m) (Err x) a = refl
  second_chosen (Err x) s a = absurd a

  pub and_true : (r : Result (Outcome X) BareName) → IfTruth r
      → on_two and_outcome (Ok (Ok (truth true))) r ≡ r
  and_true (Ok m) h = ap Ok h
  and_true (Err x) h = refl

  pub and_false : (r : Result (Outcome X) BareName) → IsAnswer r
      → on_two and_outcome (Ok (Ok (truth false))) r ≡ Ok (Ok (truth false))
  and_false (Ok m) h = refl
  and_false (Err x) h = absurd h

  pub or_true : (r : Result (Outcome X) BareName) → IsAnswer r
      → on_two or_outcome (Ok (Ok (truth true))) r ≡ Ok (Ok (truth true))
  or_true (Ok m) h = refl
  or_true (Err x) h = absurd h

  pub or_false : (r : Result (Outcome X) BareName) → IfTruth r
      → on_two or_outcome (Ok (Ok (truth false))) r ≡ r
  or_false (Ok m) h = ap Ok h
  or_false (Err x) h = refl

  pub known_test : (p : Simplified X) (b : Bool) → known_truth p ≡ Some b → p ≡ Known (truth b)
  known_test (Known (LitValue (BoolLit c))) b h = cc
  known_test p b h = cc

  truth_kept : (t : BareValue X) → is_some (truth_of t) ≡ true → IfTruth (Ok (Ok t))
  truth_kept (LitValue (BoolLit b)) h = refl
  truth_kept t h = absurd (false≢true h)

-- ---- the relation, where `f` says what an unknown means

module _ {X : Type 0} {R : X → X → Ordering} {E : X → X → Bool} (laws : EvaluatorLaws R E)
    (C : X → BareCall) (a : Answers X) (f : Text → Option BareType → Result (Outcome X) BareName) where
  abbrev pub ev : BareExpr → Result (Outcome X) BareName
  ev = fold_with (ops_by R E a) f

  -- the part's tree gives the answer, and a value that is known is that of the answer
  pub record Means (p : Simplified X) (r : Result (Outcome X) BareName) : Type 0 where
    pub same : ev (tree_of C p) ≡ r
    pub value : (t : BareValue X) → outcome_of p ≡ Ok t → IsPlain R t × (r ≡ Ok (Ok t))

  -- an outcome over a node
  pub means : (e : BareExpr) (m : Outcome X) (r : Result (Outcome X) BareName) → ev e ≡ r
      → ((t : BareValue X) → m ≡ Ok t → IsPlain R t × (r ≡ Ok (Ok t))) → Means (known_or e m) r
  means e (Ok t) r h k = record {
    same = evaluates laws C a f t (k t refl).0 ∙ sym (k t refl).1;
    value = k;
  }
  means e (Err x) r h k = record {
    same = h;
    value = λ t is. absurd (no_value Open t is);
  }

  -- a tree that is left
  pub left : (e : BareExpr) (r : Result (Outcome X) BareName) → ev e ≡ r → Means (Residual e) r
  left e r h = means e (Err Open) r h (λ t is. absurd (no_value Open t is))

  -- a value that is known
  pub known : (t : BareValue X) → IsPlain R t → Means (Known t) (Ok (Ok t))
  known t h =
      means (value_expr C t) (Ok t) (Ok (Ok t)) (evaluates laws C a f t h)
      (λ u is. (subst (IfPlain R) is h, ap Ok is))

  -- what an operation makes of plain values before, another makes of them later, and it is plain
  abbrev pub Stays : (Outcome X → Outcome X) → (Outcome X → Outcome X) → Type 0
  Stays op op' =
      (t u : BareValue X) → IsPlain R t → op (Ok t) ≡ Ok u → IsPlain R u × (op' (Ok t) ≡ Ok u)

  abbrev pub TwoStay :
      (BareValue X → BareValue X → Outcome X) → (BareValue X → BareValue X → Outcome X) → Type 0
  TwoStay g g' =
      (t u w : BareValue X) → IsPlain R t → IsPlain R u → g t u ≡ Ok w
      → IsPlain R w × (g' t u ≡ Ok w)

  -- an operation on one operand
  pub of_one : (node : BareExpr → BareExpr) (op op' : Outcome X → Outcome X) → IsStrict op
      → Stays op op' → ((e : BareExpr) → ev (node e) ≡ on_one op' (ev e))
      → (p : Simplified X) (r : Result (Outcome X) BareName) → Means p r
      → Means (known_or (node (tree_of C p)) (op (outcome_of p))) (on_one op' r)
  of_one node op op' needs stays folds p r h =
      means (node (tree_of C p)) (op (outcome_of p)) (on_one op' r)
      (folds (tree_of C p) ∙ ap (on_one op') h.same)
      (λ t is.
      let u = needs (outcome_of p) t is in
      let v = h.value u.0 u.1 in
      let here : op (Ok u.0) ≡ Ok t = sym (ap op u.1) ∙ is in
      let w = stays u.0 t v.0 here in
      (w.0, ap (on_one op') v.1 ∙ ap Ok w.1))

  -- an operation on two operands
  pub of_two : (node : BareExpr → BareExpr → BareExpr)
      (g g' : BareValue X → BareValue X → Outcome X) → TwoStay g g'
      → ((b c : BareExpr) → ev (node b c) ≡ on_two (then_two g') (ev b) (ev c))
      → (p q : Simplified X) (r s : Result (Outcome X) BareName) → Means p r → Means q s
      → Means
      (known_or (node (tree_of C p) (tree_of C q)) (then_two g (outcome_of p) (outcome_of q)))
      (on_two (then_two g') r s)
  of_two node g g' stay folds p q r s h l =
      means (node (tree_of C p) (tree_of C q)) (then_two g (outcome_of p) (outcome_of q))
      (on_two (then_two g') r s)
      (folds (tree_of C p) (tree_of C q) ∙ (λ i. on_two (then_two g') (h.same i) (l.same i)))
      (λ t is.
      let u = two_given g (outcome_of p) (outcome_of q) t is in
      let v = h.value u.0 u.2 in
      let w = l.value u.1 u.3 in
      let here : g u.0 u.1 ≡ Ok t = sym (λ i. then_two g (u.2 i) (u.3 i)) ∙ is in
      let z = stay u.0 u.1 t v.0 w.0 here in
      (z.0, (λ i. on_two (then_two g') (v.1 i) (w.1 i)) ∙ ap Ok z.1))

  -- a part that is taken on a condition, else the node
  choose : (b : Bool) (p : Simplified X) (e : BareExpr) (r : Result (Outcome X) BareName) → ev e ≡ r
      → (b ≡ true → Means p r) → Means (if b then p else Residual e) r
  choose true p e r h k = k refl
  choose false p e r h k = left e r h

  pub test_is : (p : Simplified X) (r : Result (Outcome X) BareName) (b : Bool) → Means p r
      → known_truth p ≡ Some b → r ≡ Ok (Ok (truth b))
  test_is p r b h is = (h.value (truth b) (ap outcome_of (known_test p b is))).1

  module _ (by_children : AsksByChildren) (truths : AreTruths a)
      (sure : (n : Text) (t : Option BareType) → IsAnswer (f n t)) where
    boolean_answer : (p : Simplified X) (r : Result (Outcome X) BareName) → Means p r
        → is_boolean p ≡ true → IfTruth r
    boolean_answer (Known t) r h b = subst IfTruth (sym (h.value t refl).1) (truth_kept t b)
    boolean_answer (Residual e) r h b = subst IfTruth h.same (boolean R E a truths f e b)

    pub none_refused : (p : Simplified X) (r : Result (Outcome X) BareName) → Means p r
        → calls_nothing p ≡ true → IsAnswer r
    none_refused (Known t) r h c = subst IsAnswer (sym (h.value t refl).1) tt
    none_refused (Residual e) r h c =
        subst IsAnswer h.same (answered by_children (ops_by R E a) f sure e c)

    pub of_if : (p q s : Simplified X) (x y z : Result (Outcome X) BareName) → Means p x → Means q y
        → Means s z
        → Means (branch_or (If (tree_of C p) (tree_of C q) (tree_of C s)) (known_truth p) q s)
        (on_three if_outcome x y z)
    of_if p q s x y z h k l = go (known_truth p) refl
      where
        node : BareExpr
        node = If (tree_of C p) (tree_of C q) (tree_of C s)

        as_node : ev (If (tree_of C p) (tree_of C q) (tree_of C s)) ≡ on_three if_outcome x y z
        as_node = λ i. on_three if_outcome (h.same i) (k.same i) (l.same i)

        tested : (b : Bool) → known_truth p ≡ Some b
            → on_three if_outcome x y z ≡ on_three if_outcome (Ok (Ok (truth b))) y z
        tested b is = ap (λ r. on_three if_outcome r y z) (test_is p x b h is)

        go : (b : Option Bool) → known_truth p ≡ b
            → Means (branch_or (If (tree_of C p) (tree_of C q) (tree_of C s)) b q s)
            (on_three if_outcome x y z)
        go None is = left _ _ as_node
        go (Some true) is =
            choose (calls_nothing s) q _ _ as_node
            (λ c. subst (Means q)
            (sym (tested true is ∙ first_chosen y z (none_refused s z l c))) k)
        go (Some false) is =
            choose (calls_nothing q) s _ _ as_node
            (λ c. subst (Means s)
            (sym (tested false is ∙ second_chosen y z (none_refused q y k c))) l)

    pub of_and : (p q : Simplified X) (x y : Result (Outcome X) BareName) → Means p x → Means q y
        → Means (and_or (And (tree_of C p) (tree_of C q)) (known_truth p) q)
        (on_two and_outcome x y)
    of_and p q x y h k = go (known_truth p) refl
      where
        as_node : ev (And (tree_of C p) (tree_of C q)) ≡ on_two and_outcome x y
        as_node = λ i. on_two and_outcome (h.same i) (k.same i)

        tested : (b : Bool) → known_truth p ≡ Some b
            → on_two and_outcome x y ≡ on_two and_outcome (Ok (Ok (truth b))) y
        tested b is = ap (λ r. on_two and_outcome r y) (test_is p x b h is)

        go : (b : Option Bool) → known_truth p ≡ b
            → Means (and_or (And (tree_of C p) (tree_of C q)) b q) (on_two and_outcome x y)
        go None is = left _ _ as_node
        go (Some true) is =
            choose (is_boolean q) q _ _ as_node
            (λ c. subst (Means q) (sym (tested true is ∙ and_true y (boolean_answer q y k c))) k)
        go (Some false) is =
            choose (calls_nothing q) (Known (truth false)) _ _ as_node
            (λ c. subst (Means (Known (truth false)))
            (sym (tested false is ∙ and_false y (none_refused q y k c)))
            (known (truth false) (literal R (BoolLit false))))

    pub of_or : (p q : Simplified X) (x y : Result (Outcome X) BareName) → Means p x → Means q y
        → Means (or_or (Or (tree_of C p) (tree_of C q)) (known_truth p) q)
        (on_two or_outcome x y)
    of_or p q x y h k = go (known_truth p) refl
      where
        as_node : ev (Or (tree_of C p) (tree_of C q)) ≡ on_two or_outcome x y
        as_node = λ i. on_two or_outcome (h.same i) (k.same i)

        tested : (b : Bool) → known_truth p ≡ Some b
            → on_two or_outcome x y ≡ on_two or_outcome (Ok (Ok (truth b))) y
        tested b is = ap (λ r. on_two or_outcome r y) (test_is p x b h is)

        go : (b : Option Bool) → known_truth p ≡ b
            → Means (or_or (Or (tree_of C p) (tree_of C q)) b q) (on_two or_outcome x y)
        go None is = left _ _ as_node
        go (Some true) is =
            choose (calls_nothing q) (Known (truth true)) _ _ as_node
            (λ c. subst (Means (Known (truth true)))
            (sym (tested true is ∙ or_true y (none_refused q y k c)))
            (known (truth true) (literal R (BoolLit true))))
        go (Some false) is =
            choose (is_boolean q) q _ _ as_node
            (λ c. subst (Means q) (sym (tested false is ∙ or_false y (boolean_answer q y k c))) k)

  -- plain values, which an answer has as its outcomes
  abbrev AreValues : List (BareValue X) → Result (List (Outcome X)) BareName → Type 0
  AreValues ts r = AllByRecursion (IsPlain R) ts × (r ≡ Ok (map (λ t. Ok t) ts))

  abbrev ArePairs : List (Text × BareValue X) → Result (List (Text × Outcome X)) BareName → Type 0
  ArePairs ts r = AllByRecursion (λ q. IsPlain R q.1) ts × (r ≡ Ok (map (λ q. (q.0, Ok q.1)) ts))

  -- the same of a row
  pub record AllMean (ps : List (Simplified X)) (r : Result (List (Outcome X)) BareName) : Type 0 where
    pub same : fold_all (ops_by R E a) f (child_trees C ps) ≡ r
    pub values : (ts : List (BareValue X)) → all_values (map outcome_of ps) ≡ Ok ts → AreValues ts r

  pub no_parts : AllMean [] (Ok [])
  no_parts = record {
    same = refl;
    values = λ ts is. let e : [] ≡ ts = cc in subst (λ us. AreValues us (Ok [])) e (tt, refl);
  }

  pub further : (p : Simplified X) (r : Result (Outcome X) BareName) (ps : List (Simplified X))
      (s : Result (List (Outcome X)) BareName) → Means p r → AllMean ps s
      → AllMean (p ∷ ps) (on_two (λ m ms. m ∷ ms) r s)
  further p r ps s h k = record {
    same = λ i. on_two (λ m ms. m ∷ ms) (h.same i) (k.same i);
    values = λ ts is.
        let u = both_given (λ t us. t ∷ us) (outcome_of p) (all_values (map outcome_of ps)) ts is in
        let v = h.value u.0 u.2 in
        let w = k.values u.1 u.3 in
        subst (λ us. AreValues us (on_two (λ m ms. m ∷ ms) r s)) (sym u.4)
        ((v.0, w.0), λ i. on_two (λ m ms. m ∷ ms) (v.1 i) (w.1 i));
  }

  pub of_call : (n : BareName) (ps : List (Simplified X)) (r : Result (List (Outcome X)) BareName)
      → AllMean ps r
      → Means (Residual (ExtensionFunctionApp n (child_trees C ps))) (and_then (a.call n) r)
  of_call n ps r h = left (ExtensionFunctionApp n (child_trees C ps)) _ (ap (and_then (a.call n)) h.same)

  pub of_set : (ps : List (Simplified X)) (r : Result (List (Outcome X)) BareName) → AllMean ps r
      → Means (known_or (Set (child_trees C ps)) (set_outcome R (map outcome_of ps)))
      (on_one (set_outcome R) r)
  of_set ps r h =
      means (Set (child_trees C ps)) (set_outcome R (map outcome_of ps)) (on_one (set_outcome R) r)
      (ap (on_one (set_outcome R)) h.same)
      (λ t is.
      let u = one_given (set_value R) (all_values (map outcome_of ps)) t is in
      let v = h.values u.0 u.1 in
      subst (λ w. IsPlain R w × (on_one (set_outcome R) r ≡ Ok (Ok w))) (sym u.2) (
        plain_set R laws.ascending_lists u.0 v.0,
        ap (on_one (set_outcome R)) v.1
            ∙ ap (λ x. Ok (on_one (set_value R) x)) (values_ok u.0),
      ))

  -- the same of a record's values, with the keys
  pub record PairsMean (ps : List (Text × Simplified X))
      (r : Result (List (Text × Outcome X)) BareName) : Type 0 where
    pub same : fold_fields (ops_by R E a) f (child_fields C ps) ≡ r
    pub values :
        (ts : List (Text × BareValue X)) → all_pairs (pair_outcomes ps) ≡ Ok ts
        → ArePairs ts r

  pub no_pair : PairsMean [] (Ok [])
  no_pair = record {
    same = refl;
    values = λ ts is. let e : [] ≡ ts = cc in subst (λ us. ArePairs us (Ok [])) e (tt, refl);
  }

  pub further_pair : (j : Text) (p : Simplified X) (r : Result (Outcome X) BareName)
      (ps : List (Text × Simplified X)) (s : Result (List (Text × Outcome X)) BareName)
      → Means p r → PairsMean ps s
      → PairsMean ((j, p) ∷ ps) (on_two (λ m ms. (j, m) ∷ ms) r s)
  further_pair j p r ps s h k = record {
    same = λ i. on_two (λ m ms. (j, m) ∷ ms) (h.same i) (k.same i);
    values = λ ts is.
        let u = both_given (λ t us. (j, t) ∷ us) (outcome_of p)
        (all_pairs (pair_outcomes ps)) ts is in
        let v = h.value u.0 u.2 in
        let w = k.values u.1 u.3 in
        subst (λ us. ArePairs us (on_two (λ m ms. (j, m) ∷ ms) r s)) (sym u.4)
        ((v.0, w.0), λ i. on_two (λ m ms. (j, m) ∷ ms) (v.1 i) (w.1 i));
  }

  pub of_record : (ps : List (Text × Simplified X)) (r : Result (List (Text × Outcome X)) BareName)
      → PairsMean ps r
      → Means (known_or (Record (child_fields C ps))
      (record_outcome (pair_outcomes ps)))
      (on_one record_outcome r)
  of_record ps r h =
      means (Record (child_fields C ps)) (record_outcome (pair_outcomes ps))
      (on_one record_outcome r) (ap (on_one record_outcome) h.same)
      (λ t is.
      let u = one_given (λ qs. RecordValue (pairs_of qs))
      (all_pairs (pair_outcomes ps)) t is in
      let v = h.values u.0 u.1 in
      subst (λ w. IsPlain R w × (on_one record_outcome r ≡ Ok (Ok w))) (sym u.2) (
        plain_record R u.0 v.0,
        ap (on_one record_outcome) v.1
            ∙ ap (λ x. Ok (on_one (λ qs. RecordValue (pairs_of qs)) x)) (pairs_ok u.0),
      ))
