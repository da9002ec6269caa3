-- A simplified tree asks only for what the tree asks for: one induction over trees.
use Rattle.std.proofs.Common.{◌≡◌, refl, sym, subst, Bool, true, false, ◌&&◌, List, [], ◌∷◌, map, Option, Some, None, Result, Ok, Err}
use Rattle.std.specs.List.{list_all}
use Rattle.std.specs.Prelude.{if◌then◌else◌}
use Rattle.std.specs.declared.cmp.Ordering.{Ordering}
use Rattle.std.proofs.lemmas.Bool.{and_parts}
use Rattle.cedar_names.specs.Names.{BareName}
use Rattle.cedar_terms.specs.Types.{BareType}
use Rattle.cedar_builders.specs.BareExpr.{Text, BareExpr, Lit, Var, Slot, Unknown, If, And, Or, UnaryApp, BinaryApp, ExtensionFunctionApp, GetAttr, HasAttr, Like, Set, Record, Is, BareExprs, no_trees, tree, BareFields, no_fields, field}
use Rattle.cedar_builders.specs.Ops.{Ops}
use Rattle.cedar_builders.specs.Environment.{Env}
use Rattle.cedar_builders.specs.Fold.{on_one, on_two, on_three, and_then, fold_with, fold_all, fold_fields}
use Rattle.cedar_builders.specs.Walks.{preorder, forward}
use Rattle.semantics_values.specs.BareValue.{BareCall}
use Rattle.semantics_eval.specs.Outcomes.{Outcome, truth, strict, strict_two, if_outcome, and_outcome, or_outcome}
use Rattle.semantics_eval.specs.Attributes.{get_in, has_path, like_in, is_in}
use Rattle.semantics_eval.specs.Operators.{apply_one, apply_two}
use Rattle.semantics_eval.specs.Rows.{set_outcome, record_outcome}
use Rattle.semantics_eval.specs.Evaluator.{evaluator_ops}
use Rattle.semantics_simplify.specs.Asks.{Ask, OfCall, passes, asks_only, is_bound_or}
use Rattle.semantics_simplify.specs.Simplified.{Simplified, Known, Residual, tree_of, child_trees, child_fields, outcome_of, pair_outcomes, known_or, known_truth, calls_nothing, is_boolean}
use Rattle.semantics_simplify.specs.Simplifier.{branch_or, and_or, or_or, simplifier_ops}
use Rattle.semantics_simplify.proofs.Values.{EvaluatorLaws}
use Rattle.semantics_simplify.proofs.Calls.{rows, calls_values, AllPass, together, behind, only, value_passes, IsAnswer}
use Rattle.semantics_simplify.proofs.Means.{Means}
use Rattle.semantics_simplify.specs.Sure.{Sure, sure_one, sure_then, sure_two, sure_three, sure_both}
use Rattle.semantics_simplify.proofs.Sound.{sound}

-- a residual asks only for what passes
abbrev pub Passing : {X : Type 0} → (Ask → Bool) → Simplified X → Type 0
Passing Q (Known t) = Unit {0}
Passing Q (Residual e) = asks_only Q e ≡ true

module _ {X : Type 0} (Q : Ask → Bool) where
  passing_or : (e : BareExpr) (m : Outcome X) → asks_only Q e ≡ true → Passing Q (known_or e m)
  passing_or e (Ok t) h = tt
  passing_or e (Err x) h = h

  chosen_passing : (b : Bool) (p : Simplified X) (e : BareExpr) → Passing Q p → asks_only Q e ≡ true
      → Passing Q (if b then p else Residual e)
  chosen_passing true p e k h = k
  chosen_passing false p e k h = h

  branch_passing : (e : BareExpr) (b : Option Bool) (q s : Simplified X) → asks_only Q e ≡ true
      → Passing Q q → Passing Q s → Passing Q (branch_or e b q s)
  branch_passing e None q s h k l = h
  branch_passing e (Some true) q s h k l = chosen_passing (calls_nothing s) q e k h
  branch_passing e (Some false) q s h k l = chosen_passing (calls_nothing q) s e l h

  and_passing : (e : BareExpr) (b : Option Bool) (q : Simplified X) → asks_only Q e ≡ true → Passing Q q
      → Passing Q (and_or e b q)
  and_passing e None q h k = h
  and_passing e (Some true) q h k = chosen_passing (is_boolean q) q e k h
  and_passing e (Some false) q h k = chosen_passing (calls_nothing q) (Known (truth false)) e tt h

  or_passing : (e : BareExpr) (b : Option Bool) (q : Simplified X) → asks_only Q e ≡ true → Passing Q q
      → Passing Q (or_or e b q)
  or_passing e None q h k = h
  or_passing e (Some true) q h k = chosen_passing (calls_nothing q) (Known (truth true)) e tt h
  or_passing e (Some false) q h k = chosen_passing (is_boolean q) q e k h

-- `f` says what an unknown means, and `g` what it is made
module _ {X : Type 0} {R : X → X → Ordering} {E : X → X → Bool} (laws : EvaluatorLaws R E)
    (C : X → BareCall) (f : Text → Option BareType → Result (Outcome X) BareName)
    (answers : (n : Text) (t : Option BareType) → IsAnswer (f n t))
    (g : Text → Option BareType → Result (Simplified X) ⊥)
    (at_unknown : (n : Text) (t : Option BareType) → Sure (Means laws C f) (g n t) (f n t))
    (Q : Ask → Bool) (env : Env) where
  abbrev ops : Ops (Simplified X) ⊥
  ops = simplifier_ops R E C

  abbrev made : BareExpr → Result (Simplified X) ⊥
  made = fold_with ops g

  abbrev ev : BareExpr → Result (Outcome X) BareName
  ev = fold_with (evaluator_ops R E) f

  abbrev pub Same : Simplified X → Result (Outcome X) BareName → Type 0
  Same = Means laws C f

  abbrev pub Passes : Simplified X → Result (Outcome X) BareName → Type 0
  Passes p r = Passing Q p

  abbrev pub Both : Simplified X → Result (Outcome X) BareName → Type 0
  Both p r = Same p r × Passing Q p

  abbrev P : BareExpr → Bool
  P = passes (is_bound_or env Q)

  pub tree_passes : (p : Simplified X) (r : Result (Outcome X) BareName) → Both p r
      → asks_only Q (tree_of C p) ≡ true
  tree_passes (Known t) r h =
      value_passes (passes Q) C (λ l. refl) (λ es. refl) (λ fs. refl) t (h.0.value t refl).0.plain
  tree_passes (Residual e) r h = h.1

  -- the trees of members or arguments, and of a record's values
  abbrev ChildrenPass : List (Simplified X) → Result (List (Outcome X)) BareName → Type 0
  ChildrenPass ps r = AllPass (passes Q) (rows (child_trees C ps))

  abbrev FieldsPass : List (Text × Simplified X) → Result (List (Text × Outcome X)) BareName → Type 0
  FieldsPass ps r = AllPass (passes Q) (calls_values (child_fields C ps))

  -- a node over one tree, two, and three
  over : (e : BareExpr) → asks_only Q e ≡ true
      → list_all (passes Q) (forward (preorder e ∷ [])) ≡ true
  over e h = together (passes Q) (preorder e ∷ []) (h, tt)

  over_two : (p q : Simplified X) (x y : Result (Outcome X) BareName) → Both p x → Both q y
      → list_all (passes Q)
      (forward (preorder (tree_of C p) ∷ preorder (tree_of C q) ∷ [])) ≡ true
  over_two p q x y h k =
      together (passes Q) (preorder (tree_of C p) ∷ preorder (tree_of C q) ∷ [])
      (tree_passes p x h, (tree_passes q y k, tt))

  of_if : (p q s : Simplified X) (x y z : Result (Outcome X) BareName) → Both p x → Both q y
      → Both s z → Passing Q (ops.if_of p q s)
  of_if p q s x y z h k l =
      branch_passing Q (If (tree_of C p) (tree_of C q) (tree_of C s)) (known_truth p) q s
      (together (passes Q)
      (preorder (tree_of C p) ∷ preorder (tree_of C q) ∷ preorder (tree_of C s) ∷ [])
      (tree_passes p x h, (tree_passes q y k, (tree_passes s z l, tt))))
      k.1 l.1

  -- P says of a tree what is needed where an unknown is made something
  module _ (at_unbound : (n : Text) (t : Option BareType) → P (Unknown n t) ≡ true
      → Sure Passes (g n t) (f n t)) where
    with_same : (e : BareExpr) → Sure Passes (made e) (ev e) → Sure Both (made e) (ev e)
    with_same e = sure_both Same Passes (made e) (ev e) (sound laws C f answers g at_unknown e)

    -- an operation on one operand makes its node, or a value
    one : (h : Simplified X → Simplified X) (w : Outcome X → Outcome X) (node : BareExpr → BareExpr)
        → ((p : Simplified X) → h p ≡ known_or (node (tree_of C p)) (w (outcome_of p)))
        → ((e : BareExpr) → asks_only Q e ≡ true → asks_only Q (node e) ≡ true)
        → (e : BareExpr) → Sure Passes (made e) (ev e)
        → Sure Passes (on_one h (made e)) (on_one w (ev e))
    one h w node is kept e k =
        sure_one Both Passes h (on_one w)
        (λ p r l.
        subst (Passing Q) (sym (is p))
        (passing_or Q (node (tree_of C p)) (w (outcome_of p))
        (kept (tree_of C p) (tree_passes p r l))))
        (made e) (ev e) (with_same e k)

    mutual
      pub passed : (e : BareExpr) → list_all P (preorder e) ≡ true → Sure Passes (made e) (ev e)
      passed (Lit l) h = tt
      passed (Var v) h = h
      passed (Slot s) h = h
      passed (Unknown n t) h = at_unbound n t (and_parts (P (Unknown n t)) true h).0
      passed (If a b c) h =
          let p = behind P (If a b c) (preorder a ∷ preorder b ∷ preorder c ∷ []) h in
          sure_three Both Passes ops.if_of (on_three if_outcome) of_if
          (made a) (made b) (made c) (ev a) (ev b) (ev c)
          (with_same a (passed a p.0)) (with_same b (passed b p.1.0))
          (with_same c (passed c p.1.1.0))
      passed (And a b) h =
          let p = behind P (And a b) (preorder a ∷ preorder b ∷ []) h in
          sure_two Both Both Passes ops.and_of (on_two and_outcome)
          (λ q s x y k l. and_passing Q (And (tree_of C q) (tree_of C s)) (known_truth q) s
          (over_two q s x y k l) l.1)
          (made a) (made b) (ev a) (ev b)
          (with_same a (passed a p.0)) (with_same b (passed b p.1.0))
      passed (Or a b) h =
          let p = behind P (Or a b) (preorder a ∷ preorder b ∷ []) h in
          sure_two Both Both Passes ops.or_of (on_two or_outcome)
          (λ q s x y k l. or_passing Q (Or (tree_of C q) (tree_of C s)) (known_truth q) s
          (over_two q s x y k l) l.1)
          (made a) (made b) (ev a) (ev b)
          (with_same a (passed a p.0)) (with_same b (passed b p.1.0))
      passed (UnaryApp u a) h =
          one (ops.unary_of u) (strict (apply_one u)) (UnaryApp u) (λ p. refl) over
          a (passed a (only P (UnaryApp u a) a h))
      passed (BinaryApp u a b) h =
          let p = behind P (BinaryApp u a b) (preorder a ∷ preorder b ∷ []) h in
          sure_two Both Both Passes (ops.binary_of u) (on_two (strict_two (apply_two R E u)))
          (λ q s x y k l. passing_or Q (BinaryApp u (tree_of C q) (tree_of C s))
          (strict_two (apply_two R E u) (outcome_of q) (outcome_of s)) (over_two q s x y k l))
          (made a) (made b) (ev a) (ev b)
          (with_same a (passed a p.0)) (with_same b (passed b p.1.0))
      passed (ExtensionFunctionApp n es) h =
          sure_then ChildrenPass Passes (λ ps. Residual (ExtensionFunctionApp n (child_trees C ps)))
          (and_then (λ ms. Err n))
          (λ ps r k i. (and_parts (Q (OfCall n)) _ h).0 i
          && together (passes Q) (rows (child_trees C ps)) k i)
          (fold_all ops g es) (fold_all (evaluator_ops R E) f es)
          (all_passed es (behind P (ExtensionFunctionApp n es) (rows es) h))
      passed (GetAttr a k) h =
          one (λ p. ops.get_of p k) (strict (get_in k)) (λ e. GetAttr e k) (λ p. refl) over
          a (passed a (only P (GetAttr a k) a h))
      passed (HasAttr a k ks) h =
          one (λ p. ops.has_of p k ks) (λ m. has_path m k ks) (λ e. HasAttr e k ks) (λ p. refl) over
          a (passed a (only P (HasAttr a k ks) a h))
      passed (Like a p) h =
          one (λ q. ops.like_of q p) (strict (like_in p)) (λ e. Like e p) (λ q. refl) over
          a (passed a (only P (Like a p) a h))
      passed (Set es) h =
          sure_one ChildrenPass Passes ops.set_of (on_one (set_outcome R))
          (λ ps r k. passing_or Q (Set (child_trees C ps)) (set_outcome R (map outcome_of ps))
          (together (passes Q) (rows (child_trees C ps)) k))
          (fold_all ops g es) (fold_all (evaluator_ops R E) f es)
          (all_passed es (behind P (Set es) (rows es) h))
      passed (Record fs) h =
          sure_one FieldsPass Passes ops.record_of (on_one record_outcome)
          (λ ps r k. passing_or Q (Record (child_fields C ps))
          (record_outcome (pair_outcomes ps))
          (together (passes Q) (calls_values (child_fields C ps)) k))
          (fold_fields ops g fs) (fold_fields (evaluator_ops R E) f fs)
          (fields_passed fs (behind P (Record fs) (calls_values fs) h))
      passed (Is a n) h =
          one (λ p. ops.is_of p n) (strict (is_in n)) (λ e. Is e n) (λ p. refl) over
          a (passed a (only P (Is a n) a h))

      all_passed : (es : BareExprs) → AllPass P (rows es)
          → Sure ChildrenPass (fold_all ops g es) (fold_all (evaluator_ops R E) f es)
      all_passed no_trees h = tt
      all_passed (tree e es) h =
          sure_two Both ChildrenPass ChildrenPass (λ p ps. p ∷ ps) (on_two (λ m ms. m ∷ ms))
          (λ p ps r s k l. (tree_passes p r k, l))
          (made e) (fold_all ops g es) (ev e) (fold_all (evaluator_ops R E) f es)
          (with_same e (passed e h.0)) (all_passed es h.1)

      fields_passed : (fs : BareFields) → AllPass P (calls_values fs)
          → Sure FieldsPass (fold_fields ops g fs) (fold_fields (evaluator_ops R E) f fs)
      fields_passed no_fields h = tt
      fields_passed (field j e fs) h =
          sure_two Both FieldsPass FieldsPass (λ p ps. (j, p) ∷ ps)
          (on_two (λ m ms. (j, m) ∷ ms)) (λ p ps r s k l. (tree_passes p r k, l))
          (made e) (fold_fields ops g fs) (ev e) (fold_fields (evaluator_ops R E) f fs)
          (with_same e (passed e h.0)) (fields_passed fs h.1)
