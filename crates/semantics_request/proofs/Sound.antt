-- What is made of a tree means what the tree means: one induction over trees.
use Rattle.std.proofs.Common.{◌≡◌, refl, ◌∙◌, ap, subst, Bool, List, ◌∷◌, Option, Result, Ok}
use Rattle.std.specs.declared.cmp.Ordering.{Ordering}
use Rattle.cedar_names.specs.Names.{BareName}
use Rattle.cedar_terms.specs.Types.{BareType}
use Rattle.cedar_terms.specs.declared.ops.BinaryOp.{BinaryOp}
use Rattle.cedar_terms.specs.declared.var.Var.{Var as Variable}
use Rattle.cedar_builders.specs.BareExpr.{Text, BareExpr, Lit, Var, Slot, Unknown, If, And, Or, UnaryApp, BinaryApp, ExtensionFunctionApp, GetAttr, HasAttr, Like, Set, Record, Is, BareExprs, no_trees, tree, BareFields, no_fields, field}
use Rattle.cedar_builders.specs.Ops.{Ops}
use Rattle.cedar_builders.specs.Fold.{on_one, on_two, on_three, and_then, fold_with, fold_all, fold_fields}
use Rattle.semantics_values.specs.BareValue.{BareCall, BareValue, LitValue}
use Rattle.semantics_eval.specs.Outcomes.{Outcome, settled, strict, if_outcome, and_outcome, or_outcome}
use Rattle.semantics_eval.specs.Attributes.{like_in, is_in}
use Rattle.semantics_eval.specs.Operators.{apply_one}
use Rattle.semantics_eval.specs.Rows.{set_outcome, record_outcome}
use Rattle.semantics_simplify.specs.Laws.{AsksByChildren}
use Rattle.semantics_simplify.specs.Simplified.{Simplified, Residual, tree_of, child_trees, outcome_of, known_or}
use Rattle.semantics_simplify.specs.Simplifier.{simplifier_ops}
use Rattle.semantics_request.specs.Evaluator.{then_two, path_by}
use Rattle.semantics_request.proofs.Answered.{Answers, ops_by, closed, path_is}
use Rattle.semantics_request.proofs.Outcomes.{IsAnswer}
use Rattle.semantics_simplify.specs.Plain.{IsPlain, literal, IfPlain, of_settled}
use Rattle.semantics_simplify.specs.Plain as plain
use Rattle.semantics_simplify.specs.Sure.{Sure, sure_one, sure_then, sure_two, sure_three}
use Rattle.semantics_request.proofs.Truths.{AreTruths}
use Rattle.semantics_request.proofs.Values.{EvaluatorLaws}
use Rattle.semantics_request.proofs.Means.{then_is, path_is_strict, Means, AllMean, PairsMean, no_parts, further, no_pair, further_pair, Stays, TwoStay}
use Rattle.semantics_request.proofs.Means as kind

module _ {X : Type 0} (R : X → X → Ordering) (E : X → X → Bool) (C : X → BareCall) where
  -- the simplifier, by what is known
  abbrev pub simplifier_by : Answers X → Ops (Simplified X) ⊥
  simplifier_by k = record (simplifier_ops R E C) {
    var_of = λ v. known_or (Var v) (k.variable v);
    binary_of = λ o p q.
        known_or (BinaryApp o (tree_of C p) (tree_of C q))
        (then_two (k.two o) (outcome_of p) (outcome_of q));
    get_of = λ p j. known_or (GetAttr (tree_of C p) j) (and_then (k.get j) (outcome_of p));
    has_of = λ p j js.
        known_or (HasAttr (tree_of C p) j js) (path_by k.has k.get (outcome_of p) j js);
  }

  pub simplifier_is : simplifier_ops R E C ≡ simplifier_by (closed R E)
  simplifier_is = λ i. record (simplifier_by (closed R E)) {
    has_of = λ p j js. known_or (HasAttr (tree_of C p) j js) (path_is R E (outcome_of p) j js i);
  }

-- the first answers are known, and plain, and the second ones say the same
pub record Agree {X : Type 0} {R : X → X → Ordering} {E : X → X → Bool} (laws : EvaluatorLaws R E)
    (k a : Answers X) : Type 0 where
  pub variable :
      (v : Variable) (t : BareValue X) → k.variable v ≡ Ok t
      → IsPlain R t × (a.variable v ≡ Ok t)
  pub two :
      (o : BinaryOp) (t u w : BareValue X) → IsPlain R t → IsPlain R u → k.two o t u ≡ Ok w
      → IsPlain R w × (a.two o t u ≡ Ok w)
  pub get :
      (j : Text) (t u : BareValue X) → IsPlain R t → k.get j t ≡ Ok u
      → IsPlain R u × (a.get j t ≡ Ok u)
  pub path :
      (j : Text) (js : List Text) (t u : BareValue X) → IsPlain R t
      → path_by k.has k.get (Ok t) j js ≡ Ok u
      → IsPlain R u × (path_by a.has a.get (Ok t) j js ≡ Ok u)

-- `f` says what an unknown means, and `g` what it is made
module _ {X : Type 0} {R : X → X → Ordering} {E : X → X → Bool} (laws : EvaluatorLaws R E)
    (by_children : AsksByChildren) (C : X → BareCall) (k a : Answers X) (agree : Agree laws k a)
    (truths : AreTruths a)
    (f : Text → Option BareType → Result (Outcome X) BareName)
    (answers : (n : Text) (t : Option BareType) → IsAnswer (f n t))
    (g : Text → Option BareType → Result (Simplified X) ⊥)
    (at_unknown : (n : Text) (t : Option BareType) → Sure (Means laws C a f) (g n t) (f n t)) where
  abbrev ops : Ops (Simplified X) ⊥
  ops = simplifier_by R E C k

  abbrev later : Ops (Outcome X) BareName
  later = ops_by R E a

  abbrev made : BareExpr → Result (Simplified X) ⊥
  made = fold_with ops g

  abbrev ev : BareExpr → Result (Outcome X) BareName
  ev = fold_with later f

  abbrev Same : Simplified X → Result (Outcome X) BareName → Type 0
  Same = Means laws C a f

  abbrev AllSame : List (Simplified X) → Result (List (Outcome X)) BareName → Type 0
  AllSame = AllMean laws C a f

  abbrev PairsSame : List (Text × Simplified X) → Result (List (Text × Outcome X)) BareName → Type 0
  PairsSame = PairsMean laws C a f

  one : (h : Simplified X → Simplified X) (op : Outcome X → Outcome X)
      → ((p : Simplified X) (r : Result (Outcome X) BareName) → Same p r → Same (h p) (on_one op r))
      → (e : BareExpr) → Sure Same (made e) (ev e)
      → Sure Same (on_one h (made e)) (on_one op (ev e))
  one h op l e = sure_one Same Same h (on_one op) l (made e) (ev e)

  -- an operation that asks nothing
  stays : (op : Outcome X → Outcome X)
      → ((t : BareValue X) → IsPlain R t → IfPlain R (op (Ok t)))
      → (t u : BareValue X) → IsPlain R t → op (Ok t) ≡ Ok u → IsPlain R u × (op (Ok t) ≡ Ok u)
  stays op h t u p is = (subst (IfPlain R) is (h t p), is)

  of_var : (v : Variable) (m : Outcome X) → k.variable v ≡ m → Same (known_or (Var v) m) (ev (Var v))
  of_var v m is =
      kind.means laws C a f (Var v) m (ev (Var v)) refl
      (λ t same. let h = agree.variable v t (is ∙ same) in (h.0, ap Ok h.1))

  mutual
    pub sound : (e : BareExpr) → Sure Same (made e) (ev e)
    sound (Lit l) = kind.known laws C a f (LitValue l) (literal R l)
    sound (Var v) = of_var v (k.variable v) refl
    sound (Slot s) = kind.left laws C a f (Slot s) _ refl
    sound (Unknown n t) = at_unknown n t
    sound (If b c d) =
        sure_three Same Same ops.if_of (on_three if_outcome)
        (kind.of_if laws C a f by_children truths answers)
        (made b) (made c) (made d) (ev b) (ev c) (ev d) (sound b) (sound c) (sound d)
    sound (And b c) =
        sure_two Same Same Same ops.and_of (on_two and_outcome)
        (kind.of_and laws C a f by_children truths answers)
        (made b) (made c) (ev b) (ev c) (sound b) (sound c)
    sound (Or b c) =
        sure_two Same Same Same ops.or_of (on_two or_outcome)
        (kind.of_or laws C a f by_children truths answers)
        (made b) (made c) (ev b) (ev c) (sound b) (sound c)
    sound (UnaryApp u b) =
        one (ops.unary_of u) (strict (apply_one u))
        (kind.of_one laws C a f (UnaryApp u) (strict (apply_one u)) (strict (apply_one u))
        (then_is (λ t. settled (apply_one u t)))
        (stays (strict (apply_one u)) (λ t h. of_settled R (apply_one u t) (plain.of_one R u t)))
        (λ e. refl))
        b (sound b)
    sound (BinaryApp u b c) =
        sure_two Same Same Same (ops.binary_of u) (on_two (then_two (a.two u)))
        (kind.of_two laws C a f (BinaryApp u) (k.two u) (a.two u) (agree.two u) (λ d e. refl))
        (made b) (made c) (ev b) (ev c) (sound b) (sound c)
    sound (ExtensionFunctionApp n es) =
        sure_then AllSame Same (λ ps. Residual (ExtensionFunctionApp n (child_trees C ps)))
        (and_then (a.call n)) (kind.of_call laws C a f n)
        (fold_all ops g es) (fold_all later f es) (all_sound es)
    sound (GetAttr b j) =
        one (λ p. ops.get_of p j) (and_then (a.get j))
        (kind.of_one laws C a f (λ e. GetAttr e j) (and_then (k.get j)) (and_then (a.get j))
        (then_is (k.get j)) (agree.get j) (λ e. refl))
        b (sound b)
    sound (HasAttr b j js) =
        one (λ p. ops.has_of p j js) (λ m. path_by a.has a.get m j js)
        (kind.of_one laws C a f (λ e. HasAttr e j js) (λ m. path_by k.has k.get m j js)
        (λ m. path_by a.has a.get m j js) (path_is_strict k.has k.get j js) (agree.path j js)
        (λ e. refl))
        b (sound b)
    sound (Like b p) =
        one (λ q. ops.like_of q p) (strict (like_in p))
        (kind.of_one laws C a f (λ e. Like e p) (strict (like_in p)) (strict (like_in p))
        (then_is (λ t. settled (like_in p t)))
        (stays (strict (like_in p)) (λ t h. of_settled R (like_in p t) (plain.of_like R p t)))
        (λ e. refl))
        b (sound b)
    sound (Set es) =
        sure_one AllSame Same ops.set_of (on_one (set_outcome R)) (kind.of_set laws C a f)
        (fold_all ops g es) (fold_all later f es) (all_sound es)
    sound (Record fs) =
        sure_one PairsSame Same ops.record_of (on_one record_outcome) (kind.of_record laws C a f)
        (fold_fields ops g fs) (fold_fields later f fs) (fields_sound fs)
    sound (Is b n) =
        one (λ p. ops.is_of p n) (strict (is_in n))
        (kind.of_one laws C a f (λ e. Is e n) (strict (is_in n)) (strict (is_in n))
        (then_is (λ t. settled (is_in n t)))
        (stays (strict (is_in n)) (λ t h. of_settled R (is_in n t) (plain.of_is R n t)))
        (λ e. refl))
        b (sound b)

    pub all_sound : (es : BareExprs) → Sure AllSame (fold_all ops g es) (fold_all later f es)
    all_sound no_trees = no_parts laws C a f
    all_sound (tree e es) =
        sure_two Same AllSame AllSame (λ p ps. p ∷ ps) (on_two (λ m ms. m ∷ ms))
        (λ p ps r s h l. further laws C a f p r ps s h l)
        (made e) (fold_all ops g es) (ev e) (fold_all later f es) (sound e) (all_sound es)

    pub fields_sound : (fs : BareFields)
        → Sure PairsSame (fold_fields ops g fs) (fold_fields later f fs)
    fields_sound no_fields = no_pair laws C a f
    fields_sound (field j e fs) =
        sure_two Same PairsSame PairsSame (λ p ps. (j, p) ∷ ps) (on_two (λ m ms. (j, m) ∷ ms))
        (λ p ps r s h l. further_pair laws C a f j p r ps s h l)
        (made e) (fold_fields ops g fs) (ev e) (fold_fields later f fs) (sound e) (fields_sound fs)
