-- The simplified tree means what the tree means: one induction over trees.
use Rattle.std.proofs.Common.{◌≡◌, refl, sym, ◌∙◌, ap, subst, Bool, List, ◌∷◌, Option, Some, None, Result, Ok, Err}
use Rattle.std.specs.Option.{option_or}
use Rattle.std.specs.declared.cmp.Ordering.{Ordering}
use Rattle.cedar_names.specs.Names.{BareName}
use Rattle.cedar_terms.specs.Types.{BareType}
use Rattle.cedar_builders.specs.BareExpr.{Text, BareExpr, Lit, Var, Slot, Unknown, If, And, Or, UnaryApp, BinaryApp, ExtensionFunctionApp, GetAttr, HasAttr, Like, Set, Record, Is, BareExprs, no_trees, tree, BareFields, no_fields, field}
use Rattle.cedar_builders.specs.Ops.{Ops}
use Rattle.cedar_builders.specs.Environment.{Env, empty, own, bound, fold}
use Rattle.cedar_builders.specs.Fold.{on_one, on_two, on_three, and_then, fold_with, fold_all, fold_fields}
use Rattle.cedar_builders.specs.Laws.{both, SubstitutedByFold}
use Rattle.cedar_builders.specs.Trees.{tree_ops, sure}
use Rattle.semantics_values.specs.BareValue.{BareCall, LitValue}
use Rattle.semantics_values.specs.Laws.{BindsPlainValues}
use Rattle.semantics_eval.specs.Outcomes.{Outcome, strict, strict_two, if_outcome, and_outcome, or_outcome}
use Rattle.semantics_eval.specs.Attributes.{get_in, has_path, like_in, is_in}
use Rattle.semantics_eval.specs.Operators.{apply_one, apply_two}
use Rattle.semantics_eval.specs.Rows.{set_outcome, record_outcome}
use Rattle.semantics_eval.specs.Evaluator.{evaluator_ops, evaluator_lawful}
use Rattle.semantics_simplify.specs.Simplified.{Simplified, Residual, child_trees, outcome_of}
use Rattle.semantics_simplify.specs.Simplifier.{simplifier_ops, simplified, simplifier_lawful}
use Rattle.semantics_simplify.specs.Laws.{MeansTheSame, PartialIsSound, IsOnePass, KnownStays}
use Rattle.semantics_simplify.specs.Plain.{IsPlain, literal, IfPlain, of_settled, of_path}
use Rattle.semantics_simplify.specs.Plain as plain
use Rattle.semantics_simplify.proofs.Values.{IsPlainTree, EvaluatorLaws, bound_value}
use Rattle.semantics_simplify.specs.Substituted.{bound_or_unknown, built_with, built_after}
use Rattle.semantics_simplify.specs.Sure.{Sure, sure_is, sure_one, sure_then, sure_two, sure_three}
use Rattle.semantics_simplify.proofs.Calls.{IsAnswer}
use Rattle.semantics_simplify.proofs.Means.{strict_is, path_is, Means, AllMean, PairsMean, no_children, further, no_pair, further_pair}
use Rattle.semantics_simplify.proofs.Means as kind

-- `f` says what an unknown means, and `g` what it is made
module _ {X : Type 0} {R : X → X → Ordering} {E : X → X → Bool} (laws : EvaluatorLaws R E)
    (C : X → BareCall) (f : Text → Option BareType → Result (Outcome X) BareName)
    (answers : (n : Text) (t : Option BareType) → IsAnswer (f n t))
    (g : Text → Option BareType → Result (Simplified X) ⊥)
    (at_unknown : (n : Text) (t : Option BareType) → Sure (Means laws C f) (g n t) (f n t)) where
  abbrev ops : Ops (Simplified X) ⊥
  ops = simplifier_ops R E C

  abbrev made : BareExpr → Result (Simplified X) ⊥
  made = fold_with ops g

  abbrev ev : BareExpr → Result (Outcome X) BareName
  ev = fold_with (evaluator_ops R E) f

  abbrev Same : Simplified X → Result (Outcome X) BareName → Type 0
  Same = Means laws C f

  abbrev AllSame : List (Simplified X) → Result (List (Outcome X)) BareName → Type 0
  AllSame = AllMean laws C f

  abbrev PairsSame : List (Text × Simplified X) → Result (List (Text × Outcome X)) BareName → Type 0
  PairsSame = PairsMean laws C f

  one : (h : Simplified X → Simplified X) (op : Outcome X → Outcome X)
      → ((p : Simplified X) (r : Result (Outcome X) BareName) → Same p r → Same (h p) (on_one op r))
      → (e : BareExpr) → Sure Same (made e) (ev e)
      → Sure Same (on_one h (made e)) (on_one op (ev e))
  one h op k e = sure_one Same Same h (on_one op) k (made e) (ev e)

  mutual
    pub sound : (e : BareExpr) → Sure Same (made e) (ev e)
    sound (Lit l) = kind.known laws C f (LitValue l) (literal R l)
    sound (Var v) = kind.residual laws C f (Var v) _ refl
    sound (Slot s) = kind.residual laws C f (Slot s) _ refl
    sound (Unknown n t) = at_unknown n t
    sound (If a b c) =
        sure_three Same Same ops.if_of (on_three if_outcome) (kind.of_if laws C f answers)
        (made a) (made b) (made c) (ev a) (ev b) (ev c) (sound a) (sound b) (sound c)
    sound (And a b) =
        sure_two Same Same Same ops.and_of (on_two and_outcome) (kind.of_and laws C f answers)
        (made a) (made b) (ev a) (ev b) (sound a) (sound b)
    sound (Or a b) =
        sure_two Same Same Same ops.or_of (on_two or_outcome) (kind.of_or laws C f answers)
        (made a) (made b) (ev a) (ev b) (sound a) (sound b)
    sound (UnaryApp u a) =
        one (ops.unary_of u) (strict (apply_one u))
        (kind.of_one laws C f (UnaryApp u) (strict (apply_one u)) (strict_is (apply_one u))
        (λ t h. of_settled R (apply_one u t) (plain.of_one R u t)) (λ e. refl))
        a (sound a)
    sound (BinaryApp u a b) =
        sure_two Same Same Same (ops.binary_of u) (on_two (strict_two (apply_two R E u)))
        (kind.of_two laws C f (BinaryApp u) (apply_two R E u) (plain.of_two R E u) (λ d e. refl))
        (made a) (made b) (ev a) (ev b) (sound a) (sound b)
    sound (ExtensionFunctionApp n es) =
        sure_then AllSame Same (λ ps. Residual (ExtensionFunctionApp n (child_trees C ps)))
        (and_then (λ ms. Err n)) (kind.of_call laws C f n)
        (fold_all ops g es) (fold_all (evaluator_ops R E) f es) (all_sound es)
    sound (GetAttr a k) =
        one (λ p. ops.get_of p k) (strict (get_in k))
        (kind.of_one laws C f (λ e. GetAttr e k) (strict (get_in k)) (strict_is (get_in k))
        (λ t h. of_settled R (get_in k t) (plain.of_get R k t h)) (λ e. refl))
        a (sound a)
    sound (HasAttr a k ks) =
        one (λ p. ops.has_of p k ks) (λ m. has_path m k ks)
        (kind.of_one laws C f (λ e. HasAttr e k ks) (λ m. has_path m k ks) (path_is k ks)
        (λ t h. of_path R (Ok t) k ks) (λ e. refl))
        a (sound a)
    sound (Like a p) =
        one (λ q. ops.like_of q p) (strict (like_in p))
        (kind.of_one laws C f (λ e. Like e p) (strict (like_in p)) (strict_is (like_in p))
        (λ t h. of_settled R (like_in p t) (plain.of_like R p t)) (λ e. refl))
        a (sound a)
    sound (Set es) =
        sure_one AllSame Same ops.set_of (on_one (set_outcome R)) (kind.of_set laws C f)
        (fold_all ops g es) (fold_all (evaluator_ops R E) f es) (all_sound es)
    sound (Record fs) =
        sure_one PairsSame Same ops.record_of (on_one record_outcome) (kind.of_record laws C f)
        (fold_fields ops g fs) (fold_fields (evaluator_ops R E) f fs) (fields_sound fs)
    sound (Is a n) =
        one (λ p. ops.is_of p n) (strict (is_in n))
        (kind.of_one laws C f (λ e. Is e n) (strict (is_in n)) (strict_is (is_in n))
        (λ t h. of_settled R (is_in n t) (plain.of_is R n t)) (λ e. refl))
        a (sound a)

    pub all_sound : (es : BareExprs)
        → Sure AllSame (fold_all ops g es) (fold_all (evaluator_ops R E) f es)
    all_sound no_trees = no_children laws C f
    all_sound (tree e es) =
        sure_two Same AllSame AllSame (λ p ps. p ∷ ps) (on_two (λ m ms. m ∷ ms))
        (λ p ps r s h k. further laws C f p r ps s h k)
        (made e) (fold_all ops g es) (ev e) (fold_all (evaluator_ops R E) f es)
        (sound e) (all_sound es)

    pub fields_sound : (fs : BareFields)
        → Sure PairsSame (fold_fields ops g fs) (fold_fields (evaluator_ops R E) f fs)
    fields_sound no_fields = no_pair laws C f
    fields_sound (field j e fs) =
        sure_two Same PairsSame PairsSame (λ p ps. (j, p) ∷ ps) (on_two (λ m ms. (j, m) ∷ ms))
        (λ p ps r s h k. further_pair laws C f j p r ps s h k)
        (made e) (fold_fields ops g fs) (ev e) (fold_fields (evaluator_ops R E) f fs)
        (sound e) (fields_sound fs)

pub one_pass : {X : Type 0} (R : X → X → Ordering) (E : X → X → Bool) → SubstitutedByFold
    → IsOnePass R E
one_pass R E by_fold C env e =
    ap sure (built_after (simplifier_ops R E C) (simplifier_lawful R E C) by_fold env e)

module _ {X : Type 0} {R : X → X → Ordering} {E : X → X → Bool} (laws : EvaluatorLaws R E) where
  -- an unknown is not refused where values are bound
  pub bound_answers : (C : X → BareCall) (x : Option (BareType × BareExpr))
      → ((r : BareType × BareExpr) → x ≡ Some r → IsPlainTree C r.1)
      → (n : Text) (s : Option BareType) → IsAnswer (bound (evaluator_ops R E) x n s)
  bound_answers C None plain n s = tt
  bound_answers C (Some r) plain n s =
      let ops = evaluator_ops R E in
      subst IsAnswer (sym ((bound_value R E C r.1 (plain r refl)).1 (own ops))) tt

  -- a tree simplified with some unknowns unbound, and what it means where values are bound
  bound_sound : (C : X → BareCall) (env : Env) → BindsPlainValues C env → (e : BareExpr)
      → Means laws C (λ n s. bound (evaluator_ops R E) (env n) n s) (simplified R E C e)
      (fold (evaluator_ops R E) env e)
  bound_sound C env plain e =
      let f : Text → Option BareType → Result (Outcome X) BareName =
      λ n s. bound (evaluator_ops R E) (env n) n s in
      sure_is (Means laws C f) (fold (simplifier_ops R E C) empty e) (fold (evaluator_ops R E) env e)
      (sound laws C f (λ n s. bound_answers C (env n) (plain n) n s)
      (own (simplifier_ops R E C)) (λ n s. kind.residual laws C f (Unknown n s) (f n s) refl) e)

  pub means_the_same : MeansTheSame R E
  means_the_same C env plain e = (bound_sound C env plain e).same

  -- what is bound first stands, whatever is bound to further unknowns
  first_bound : (C : X → BareCall) (env2 : Env) (x : Option (BareType × BareExpr))
      → ((r : BareType × BareExpr) → x ≡ Some r → IsPlainTree C r.1)
      → (n : Text) (s : Option BareType)
      → bound_or_unknown (evaluator_ops R E) (evaluator_lawful R E)
      (λ m t. bound (evaluator_ops R E) (env2 m) m t) x n s
      ≡ bound (evaluator_ops R E) (option_or x (env2 n)) n s
  first_bound C env2 None plain n s = refl
  first_bound C env2 (Some r) plain n s =
      let ops = evaluator_ops R E in
      let v = bound_value R E C r.1 (plain r refl) in
      v.1 (λ m t. bound ops (env2 m) m t) ∙ sym (v.1 (own ops))

  -- to put values and then to evaluate with further ones
  put : SubstitutedByFold → (C : X → BareCall) (env1 env2 : Env) → BindsPlainValues C env1
      → (e : BareExpr)
      → fold (evaluator_ops R E) env2 (sure (fold tree_ops env1 e))
      ≡ fold (evaluator_ops R E) (both env1 env2) e
  put by_fold C env1 env2 plain e =
      let ops = evaluator_ops R E in
      built_with ops (evaluator_lawful R E) (λ n s. bound ops (env2 n) n s) by_fold env1 e
      ∙ ap (λ u. fold_with ops u e) (λ i n s. first_bound C env2 (env1 n) (plain n) n s i)

  pub partial_is_sound : SubstitutedByFold → PartialIsSound R E
  partial_is_sound by_fold C env1 env2 plain1 plain2 e =
      means_the_same C env2 plain2 (sure (fold tree_ops env1 e))
      ∙ put by_fold C env1 env2 plain1 e

  pub known_stays : SubstitutedByFold → KnownStays R E
  known_stays by_fold C env1 env2 plain1 plain2 e t is =
      let h = bound_sound C env2 plain2 (sure (fold tree_ops env1 e)) in
      sym (put by_fold C env1 env2 plain1 e)
      ∙ (h.value t (ap outcome_of (one_pass R E by_fold C env1 e ∙ is))).1
