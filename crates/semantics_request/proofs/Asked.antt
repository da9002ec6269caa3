-- What is left of a tree asks only for what the tree asks for: one induction over trees.
use Rattle.std.proofs.Common.{◌≡◌, refl, sym, ◌∙◌, subst, Bool, true, false, List, [], ◌∷◌, map, Option, Some, None, Result, Ok, Err}
use Rattle.std.proofs.lemmas.Bool.{and_parts, and_from}
use Rattle.std.specs.List.{list_all}
use Rattle.std.specs.Prelude.{if◌then◌else◌}
use Rattle.std.specs.declared.cmp.Ordering.{Ordering}
use Rattle.cedar_names.specs.Names.{BareName}
use Rattle.cedar_names.specs.declared.slot.SlotId.{SlotId}
use Rattle.cedar_terms.specs.Types.{BareType}
use Rattle.cedar_terms.specs.declared.var.Var.{Var as Variable}
use Rattle.cedar_builders.specs.BareExpr.{Text, BareExpr, Lit, Var, Slot, Unknown, If, And, Or, UnaryApp, BinaryApp, ExtensionFunctionApp, GetAttr, HasAttr, Like, Set, Record, Is, BareExprs, no_trees, tree, BareFields, no_fields, field}
use Rattle.cedar_builders.specs.Fold.{on_one, on_two, on_three, and_then, fold_with, fold_all, fold_fields}
use Rattle.cedar_builders.specs.Ops.{Ops}
use Rattle.cedar_builders.specs.Walks.{children, members_of, values_of}
use Rattle.semantics_values.specs.BareValue.{BareCall}
use Rattle.semantics_eval.specs.Outcomes.{Outcome, truth, strict, if_outcome, and_outcome, or_outcome}
use Rattle.semantics_eval.specs.Attributes.{like_in, is_in}
use Rattle.semantics_eval.specs.Operators.{apply_one}
use Rattle.semantics_eval.specs.Rows.{set_outcome, record_outcome}
use Rattle.semantics_simplify.specs.Asks.{Ask, OfVar, OfSlot, OfUnknown, OfCall, passes, asks_only}
use Rattle.semantics_simplify.specs.Simplified.{Simplified, Known, Residual, tree_of, child_trees, child_fields, outcome_of, pair_outcomes, known_or, known_truth, calls_nothing, is_boolean}
use Rattle.semantics_simplify.specs.Simplifier.{branch_or, and_or, or_or}
use Rattle.semantics_request.specs.Evaluator.{then_two, path_by}
use Rattle.semantics_request.proofs.Answered.{Answers, ops_by}
use Rattle.semantics_request.proofs.Outcomes.{AskLaws, IsAnswer}
use Rattle.semantics_request.proofs.Means.{Means}
use Rattle.semantics_request.proofs.Sound.{simplifier_by, Agree, sound}
use Rattle.semantics_simplify.specs.Sure.{Sure, sure_one, sure_then, sure_two, sure_three, sure_both}
use Rattle.semantics_request.proofs.Truths.{AreTruths}
use Rattle.semantics_request.proofs.Values.{EvaluatorLaws}

-- a tree that is left asks only for what passes
abbrev pub Passing : {X : Type 0} → (Ask → Bool) → Simplified X → Type 0
Passing Q (Known t) = Unit {0}
Passing Q (Residual e) = asks_only Q e ≡ true

module _ {X : Type 0} (Q : Ask → Bool) where
  pub passing_or : (e : BareExpr) (m : Outcome X) → asks_only Q e ≡ true → Passing Q (known_or e m)
  passing_or e (Ok t) h = tt
  passing_or e (Err x) h = h

  chosen_passing : (b : Bool) (p : Simplified X) (e : BareExpr) → Passing Q p → asks_only Q e ≡ true
      → Passing Q (if b then p else Residual e)
  chosen_passing true p e k h = k
  chosen_passing false p e k h = h

  branch_passing : (e : BareExpr) (b : Option Bool) (q s : Simplified X) → asks_only Q e ≡ true
      → Passing Q q → Passing Q s → Passing Q (branch_or e b q s)
  branch_passing e None q s h k l = h
  branch_passing e (Some true) q s h k l = chosen_passing (calls_nothing s) q e k h
  branch_passing e (Some false) q s h k l = chosen_passing (calls_nothing q) s e l h

  and_passing : (e : BareExpr) (b : Option Bool) (q : Simplified X) → asks_only Q e ≡ true → Passing Q q
      → Passing Q (and_or e b q)
  and_passing e None q h k = h
  and_passing e (Some true) q h k = chosen_passing (is_boolean q) q e k h
  and_passing e (Some false) q h k = chosen_passing (calls_nothing q) (Known (truth false)) e tt h

  or_passing : (e : BareExpr) (b : Option Bool) (q : Simplified X) → asks_only Q e ≡ true → Passing Q q
      → Passing Q (or_or e b q)
  or_passing e None q h k = h
  or_passing e (Some true) q h k = chosen_passing (calls_nothing q) (Known (truth true)) e tt h
  or_passing e (Some false) q h k = chosen_passing (is_boolean q) q e k h

-- P says of a tree what is needed so that Q says it of what is made of it
module _ {X : Type 0} {R : X → X → Ordering} {E : X → X → Bool} (laws : EvaluatorLaws R E)
    (asks : AskLaws X) (C : X → BareCall) (k a : Answers X) (agree : Agree laws k a)
    (truths : AreTruths a)
    (f : Text → Option BareType → Result (Outcome X) BareName)
    (answers : (n : Text) (t : Option BareType) → IsAnswer (f n t))
    (g : Text → Option BareType → Result (Simplified X) ⊥)
    (at_unknown : (n : Text) (t : Option BareType) → Sure (Means laws C a f) (g n t) (f n t))
    (P Q : Ask → Bool)
    (of_var : (v : Variable) → P (OfVar v) ≡ true → Passing Q (known_or (Var v) (k.variable v)))
    (of_slot : (s : SlotId) → P (OfSlot s) ≡ true → Q (OfSlot s) ≡ true)
    (of_call : (n : BareName) → P (OfCall n) ≡ true → Q (OfCall n) ≡ true)
    (of_unknown : (n : Text) (t : Option BareType) → P (OfUnknown n t) ≡ true
    → Sure (λ p r. Passing Q p) (g n t) (f n t)) where
  abbrev ops : Ops (Simplified X) ⊥
  ops = simplifier_by R E C k

  abbrev later : Ops (Outcome X) BareName
  later = ops_by R E a

  abbrev made : BareExpr → Result (Simplified X) ⊥
  made = fold_with ops g

  abbrev ev : BareExpr → Result (Outcome X) BareName
  ev = fold_with later f

  abbrev Same : Simplified X → Result (Outcome X) BareName → Type 0
  Same = Means laws C a f

  abbrev pub Passes : Simplified X → Result (Outcome X) BareName → Type 0
  Passes p r = Passing Q p

  abbrev pub Both : Simplified X → Result (Outcome X) BareName → Type 0
  Both p r = Same p r × Passing Q p

  -- the tree of a part
  pub tree_passes : (p : Simplified X) (r : Result (Outcome X) BareName) → Both p r
      → asks_only Q (tree_of C p) ≡ true
  tree_passes (Known t) r h = asks.ask_nothing C Q t (h.0.value t refl).0.plain
  tree_passes (Residual e) r h = h.1

  -- the trees of a row, and of a record's values
  abbrev RowPasses : List (Simplified X) → Result (List (Outcome X)) BareName → Type 0
  RowPasses ps r = list_all (asks_only Q) (members_of (child_trees C ps)) ≡ true

  abbrev FieldsPass : List (Text × Simplified X) → Result (List (Text × Outcome X)) BareName → Type 0
  FieldsPass ps r = list_all (asks_only Q) (values_of (child_fields C ps)) ≡ true

  -- a node passes where its root does and its children
  node : (e : BareExpr) → passes Q e ≡ true → list_all (asks_only Q) (children e) ≡ true
      → asks_only Q e ≡ true
  node e h l =
      asks.by_children Q e ∙ and_from (passes Q e) (list_all (asks_only Q) (children e)) h l

  -- and a tree that passes, its root and its children
  parts : (e : BareExpr) → asks_only P e ≡ true
      → (passes P e ≡ true) × (list_all (asks_only P) (children e) ≡ true)
  parts e h =
      and_parts (passes P e) (list_all (asks_only P) (children e)) (sym (asks.by_children P e) ∙ h)

  first : (e : BareExpr) (es : List BareExpr) → list_all (asks_only P) (e ∷ es) ≡ true
      → (asks_only P e ≡ true) × (list_all (asks_only P) es ≡ true)
  first e es h = and_parts (asks_only P e) (list_all (asks_only P) es) h

  -- one tree before others
  before : (e : BareExpr) (es : List BareExpr) → asks_only Q e ≡ true
      → list_all (asks_only Q) es ≡ true → list_all (asks_only Q) (e ∷ es) ≡ true
  before e es h l = and_from (asks_only Q e) (list_all (asks_only Q) es) h l

  single : (e : BareExpr) → asks_only Q e ≡ true → list_all (asks_only Q) (e ∷ []) ≡ true
  single e h = before e [] h refl

  two : (p q : Simplified X) (x y : Result (Outcome X) BareName) → Both p x → Both q y
      → list_all (asks_only Q) (tree_of C p ∷ tree_of C q ∷ []) ≡ true
  two p q x y h l =
      before (tree_of C p) (tree_of C q ∷ []) (tree_passes p x h)
      (single (tree_of C q) (tree_passes q y l))

  with_same : (e : BareExpr) → Sure Passes (made e) (ev e) → Sure Both (made e) (ev e)
  with_same e =
      sure_both Same Passes (made e) (ev e)
      (sound laws asks.by_children C k a agree truths f answers g at_unknown e)

  -- an operation on one operand makes its node, or a value
  one : (h : Simplified X → Simplified X) (w w' : Outcome X → Outcome X) (made_node : BareExpr → BareExpr)
      → ((p : Simplified X) → h p ≡ known_or (made_node (tree_of C p)) (w (outcome_of p)))
      → ((e : BareExpr) → asks_only Q e ≡ true → asks_only Q (made_node e) ≡ true)
      → (e : BareExpr) → Sure Passes (made e) (ev e)
      → Sure Passes (on_one h (made e)) (on_one w' (ev e))
  one h w w' made_node is kept e l =
      sure_one Both Passes h (on_one w')
      (λ p r b.
      subst (Passing Q) (sym (is p))
      (passing_or Q (made_node (tree_of C p)) (w (outcome_of p))
      (kept (tree_of C p) (tree_passes p r b))))
      (made e) (ev e) (with_same e l)

  mutual
    pub passed : (e : BareExpr) → asks_only P e ≡ true → Sure Passes (made e) (ev e)
    passed (Lit l) h = tt
    passed (Var v) h = of_var v (parts (Var v) h).0
    passed (Slot s) h = and_from (Q (OfSlot s)) true (of_slot s (parts (Slot s) h).0) refl
    passed (Unknown n t) h = of_unknown n t (parts (Unknown n t) h).0
    passed (If b c d) h =
        let p = first b (c ∷ d ∷ []) (parts (If b c d) h).1 in
        let q = first c (d ∷ []) p.1 in
        sure_three Both Passes ops.if_of (on_three if_outcome)
        (λ u v w x y z i j l.
        branch_passing Q (If (tree_of C u) (tree_of C v) (tree_of C w)) (known_truth u) v w
        (node (If (tree_of C u) (tree_of C v) (tree_of C w)) refl
        (before (tree_of C u) (tree_of C v ∷ tree_of C w ∷ []) (tree_passes u x i)
        (two v w y z j l)))
        j.1 l.1)
        (made b) (made c) (made d) (ev b) (ev c) (ev d)
        (with_same b (passed b p.0)) (with_same c (passed c q.0))
        (with_same d (passed d (first d [] q.1).0))
    passed (And b c) h =
        let p = first b (c ∷ []) (parts (And b c) h).1 in
        sure_two Both Both Passes ops.and_of (on_two and_outcome)
        (λ q s x y i j.
        and_passing Q (And (tree_of C q) (tree_of C s)) (known_truth q) s
        (node (And (tree_of C q) (tree_of C s)) refl (two q s x y i j)) j.1)
        (made b) (made c) (ev b) (ev c)
        (with_same b (passed b p.0)) (with_same c (passed c (first c [] p.1).0))
    passed (Or b c) h =
        let p = first b (c ∷ []) (parts (Or b c) h).1 in
        sure_two Both Both Passes ops.or_of (on_two or_outcome)
        (λ q s x y i j.
        or_passing Q (Or (tree_of C q) (tree_of C s)) (known_truth q) s
        (node (Or (tree_of C q) (tree_of C s)) refl (two q s x y i j)) j.1)
        (made b) (made c) (ev b) (ev c)
        (with_same b (passed b p.0)) (with_same c (passed c (first c [] p.1).0))
    passed (UnaryApp u b) h =
        one (ops.unary_of u) (strict (apply_one u)) (strict (apply_one u)) (UnaryApp u) (λ p. refl)
        (λ e i. node (UnaryApp u e) refl (single e i))
        b (passed b (first b [] (parts (UnaryApp u b) h).1).0)
    passed (BinaryApp u b c) h =
        let p = first b (c ∷ []) (parts (BinaryApp u b c) h).1 in
        sure_two Both Both Passes (ops.binary_of u) (on_two (then_two (a.two u)))
        (λ q s x y i j.
        passing_or Q (BinaryApp u (tree_of C q) (tree_of C s))
        (then_two (k.two u) (outcome_of q) (outcome_of s))
        (node (BinaryApp u (tree_of C q) (tree_of C s)) refl (two q s x y i j)))
        (made b) (made c) (ev b) (ev c)
        (with_same b (passed b p.0)) (with_same c (passed c (first c [] p.1).0))
    passed (ExtensionFunctionApp n es) h =
        let p = parts (ExtensionFunctionApp n es) h in
        sure_then RowPasses Passes (λ ps. Residual (ExtensionFunctionApp n (child_trees C ps)))
        (and_then (a.call n))
        (λ ps r i. node (ExtensionFunctionApp n (child_trees C ps)) (of_call n p.0) i)
        (fold_all ops g es) (fold_all later f es) (all_passed es p.1)
    passed (GetAttr b j) h =
        one (λ p. ops.get_of p j) (and_then (k.get j)) (and_then (a.get j)) (λ e. GetAttr e j)
        (λ p. refl) (λ e i. node (GetAttr e j) refl (single e i))
        b (passed b (first b [] (parts (GetAttr b j) h).1).0)
    passed (HasAttr b j js) h =
        one (λ p. ops.has_of p j js) (λ m. path_by k.has k.get m j js)
        (λ m. path_by a.has a.get m j js) (λ e. HasAttr e j js)
        (λ p. refl) (λ e i. node (HasAttr e j js) refl (single e i))
        b (passed b (first b [] (parts (HasAttr b j js) h).1).0)
    passed (Like b p) h =
        one (λ q. ops.like_of q p) (strict (like_in p)) (strict (like_in p)) (λ e. Like e p)
        (λ q. refl) (λ e i. node (Like e p) refl (single e i))
        b (passed b (first b [] (parts (Like b p) h).1).0)
    passed (Set es) h =
        sure_one RowPasses Passes ops.set_of (on_one (set_outcome R))
        (λ ps r i.
        passing_or Q (Set (child_trees C ps)) (set_outcome R (map outcome_of ps))
        (node (Set (child_trees C ps)) refl i))
        (fold_all ops g es) (fold_all later f es) (all_passed es (parts (Set es) h).1)
    passed (Record fs) h =
        sure_one FieldsPass Passes ops.record_of (on_one record_outcome)
        (λ ps r i.
        passing_or Q (Record (child_fields C ps)) (record_outcome (pair_outcomes ps))
        (node (Record (child_fields C ps)) refl i))
        (fold_fields ops g fs) (fold_fields later f fs) (fields_passed fs (parts (Record fs) h).1)
    passed (Is b n) h =
        one (λ p. ops.is_of p n) (strict (is_in n)) (strict (is_in n)) (λ e. Is e n)
        (λ p. refl) (λ e i. node (Is e n) refl (single e i))
        b (passed b (first b [] (parts (Is b n) h).1).0)

    all_passed : (es : BareExprs) → list_all (asks_only P) (members_of es) ≡ true
        → Sure RowPasses (fold_all ops g es) (fold_all later f es)
    all_passed no_trees h = refl
    all_passed (tree e es) h =
        let q = first e (members_of es) h in
        sure_two Both RowPasses RowPasses (λ p ps. p ∷ ps) (on_two (λ m ms. m ∷ ms))
        (λ p ps r s i l. before (tree_of C p) (members_of (child_trees C ps)) (tree_passes p r i) l)
        (made e) (fold_all ops g es) (ev e) (fold_all later f es)
        (with_same e (passed e q.0)) (all_passed es q.1)

    fields_passed : (fs : BareFields) → list_all (asks_only P) (values_of fs) ≡ true
        → Sure FieldsPass (fold_fields ops g fs) (fold_fields later f fs)
    fields_passed no_fields h = refl
    fields_passed (field j e fs) h =
        let q = first e (values_of fs) h in
        sure_two Both FieldsPass FieldsPass (λ p ps. (j, p) ∷ ps)
        (on_two (λ m ms. (j, m) ∷ ms))
        (λ p ps r s i l. before (tree_of C p) (values_of (child_fields C ps)) (tree_passes p r i) l)
        (made e) (fold_fields ops g fs) (ev e) (fold_fields later f fs)
        (with_same e (passed e q.0)) (fields_passed fs q.1)
