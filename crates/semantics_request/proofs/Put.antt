-- To write what is known into a condition is to evaluate with it.
use Rattle.std.proofs.Common.{◌≡◌, refl, ◌∙◌, ap, Bool, List, ◌∷◌, Option, Some, None, Result, Ok}
use Rattle.std.specs.declared.cmp.Ordering.{Ordering}
use Rattle.cedar_names.specs.Names.{BareName}
use Rattle.cedar_terms.specs.Types.{BareType}
use Rattle.cedar_terms.specs.declared.var.Var.{Var as Variable}
use Rattle.cedar_builders.specs.BareExpr.{Text, BareExpr, Lit, Var, Slot, Unknown, If, And, Or, UnaryApp, BinaryApp, ExtensionFunctionApp, GetAttr, HasAttr, Like, Set, Record, Is, BareExprs, no_trees, tree, trees_of, BareFields, no_fields, field, fields_of}
use Rattle.cedar_builders.specs.Environment.{own, bound, fold}
use Rattle.cedar_builders.specs.Fold.{on_one, on_two, on_three, and_then, fold_with, fold_all, fold_fields}
use Rattle.cedar_builders.specs.Ops.{Ops}
use Rattle.semantics_values.specs.BareValue.{BareCall, BareValue}
use Rattle.semantics_eval.specs.Outcomes.{Outcome}
use Rattle.semantics_request.specs.Requests.{value_of, no_request, Functions, Knowledge}
use Rattle.semantics_request.specs.Evaluator.{known_or_open, request_ops, request_lawful, evaluated}
use Rattle.semantics_request.specs.Put.{IsPlainRequest, value_or, put_ops, put}
use Rattle.semantics_request.specs.Laws.{RequestPutFirst}
use Rattle.semantics_request.proofs.Answered.{by_request}
use Rattle.semantics_simplify.specs.Substituted.{and_built, or_built}
use Rattle.semantics_simplify.specs.Sure.{Sure, sure_is, sure_one, sure_then, sure_two, sure_three}
use Rattle.semantics_request.proofs.Values.{EvaluatorLaws, evaluates}

nothing_known : {X : Type 0} (v : Variable) → value_of (no_request {X = X}) v ≡ None
nothing_known Variable.Principal = refl
nothing_known Variable.Action = refl
nothing_known Variable.Resource = refl
nothing_known Variable.Context = refl

module _ {X : Type 0} {R : X → X → Ordering} {E : X → X → Bool} (laws : EvaluatorLaws R E)
    (C : X → BareCall) (T : Functions X) (k : Knowledge X) (plain : IsPlainRequest R k.request) where
  -- the evaluators without the request and with it, where no unknown is bound
  abbrev old : Ops (Outcome X) BareName
  old = request_ops R E T no_request k.entities

  abbrev new : Ops (Outcome X) BareName
  new = request_ops R E T k.request k.entities

  abbrev ops : Ops BareExpr ⊥
  ops = put_ops C k.request

  -- a tree evaluates to an outcome without the request
  abbrev Gives : BareExpr → Result (Outcome X) BareName → Type 0
  Gives e r = fold_with old (own old) e ≡ r

  abbrev AllGive : List BareExpr → Result (List (Outcome X)) BareName → Type 0
  AllGive es r = fold_all old (own old) (trees_of es) ≡ r

  abbrev FieldsGive : List (Text × BareExpr) → Result (List (Text × Outcome X)) BareName → Type 0
  FieldsGive ps r = fold_fields old (own old) (fields_of ps) ≡ r

  of_var : (v : Variable) (x : Option (BareValue X)) → value_of k.request v ≡ x
      → Gives (value_or C x (Var v)) (Ok (known_or_open x))
  of_var v None is = ap (λ x. Ok (known_or_open x)) (nothing_known v)
  of_var v (Some t) is =
      evaluates laws C (by_request R E T no_request k.entities) (own old) t
      (record { well_formed = plain.well_formed v t is; plain = plain.plain v t is })

  module _ (g : Text → Option BareType → Result BareExpr ⊥)
      (f : Text → Option BareType → Result (Outcome X) BareName)
      (at_unknown : (n : Text) (t : Option BareType) → Sure Gives (g n t) (f n t)) where
    abbrev made : BareExpr → Result BareExpr ⊥
    made = fold_with ops g

    abbrev ev : BareExpr → Result (Outcome X) BareName
    ev = fold_with new f

    one : (h : BareExpr → BareExpr) (op : Outcome X → Outcome X)
        → ((a : BareExpr) → fold_with old (own old) (h a) ≡ on_one op (fold_with old (own old) a))
        → (e : BareExpr) → Sure Gives (made e) (ev e)
        → Sure Gives (on_one h (made e)) (on_one op (ev e))
    one h op folds e =
        sure_one Gives Gives h (on_one op) (λ a r is. folds a ∙ ap (on_one op) is) (made e) (ev e)

    mutual
      written : (e : BareExpr) → Sure Gives (made e) (ev e)
      written (Lit l) = refl
      written (Var v) = of_var v (value_of k.request v) refl
      written (Slot s) = refl
      written (Unknown n t) = at_unknown n t
      written (If a b c) =
          sure_three Gives Gives If (on_three new.if_of)
          (λ d x y r s t p q u i. on_three new.if_of (p i) (q i) (u i))
          (made a) (made b) (made c) (ev a) (ev b) (ev c) (written a) (written b) (written c)
      written (And a b) =
          sure_two Gives Gives Gives ops.and_of (on_two new.and_of)
          (λ d x r s p q.
          and_built old (request_lawful R E T no_request k.entities) (own old) d x
          ∙ (λ i. on_two new.and_of (p i) (q i)))
          (made a) (made b) (ev a) (ev b) (written a) (written b)
      written (Or a b) =
          sure_two Gives Gives Gives ops.or_of (on_two new.or_of)
          (λ d x r s p q.
          or_built old (request_lawful R E T no_request k.entities) (own old) d x
          ∙ (λ i. on_two new.or_of (p i) (q i)))
          (made a) (made b) (ev a) (ev b) (written a) (written b)
      written (UnaryApp o a) = one (UnaryApp o) (new.unary_of o) (λ d. refl) a (written a)
      written (BinaryApp o a b) =
          sure_two Gives Gives Gives (BinaryApp o) (on_two (new.binary_of o))
          (λ d x r s p q i. on_two (new.binary_of o) (p i) (q i))
          (made a) (made b) (ev a) (ev b) (written a) (written b)
      written (ExtensionFunctionApp n es) =
          sure_then AllGive Gives (λ ds. ExtensionFunctionApp n (trees_of ds))
          (and_then (new.call_of n)) (λ ds r is. ap (and_then (new.call_of n)) is)
          (fold_all ops g es) (fold_all new f es) (all_written es)
      written (GetAttr a j) =
          one (λ e. GetAttr e j) (λ m. new.get_of m j) (λ d. refl) a (written a)
      written (HasAttr a j js) =
          one (λ e. HasAttr e j js) (λ m. new.has_of m j js) (λ d. refl) a (written a)
      written (Like a p) = one (λ e. Like e p) (λ m. new.like_of m p) (λ d. refl) a (written a)
      written (Set es) =
          sure_one AllGive Gives ops.set_of (on_one new.set_of) (λ ds r is. ap (on_one new.set_of) is)
          (fold_all ops g es) (fold_all new f es) (all_written es)
      written (Record fs) =
          sure_one FieldsGive Gives ops.record_of (on_one new.record_of)
          (λ ds r is. ap (on_one new.record_of) is)
          (fold_fields ops g fs) (fold_fields new f fs) (fields_written fs)
      written (Is a n) = one (λ e. Is e n) (λ m. new.is_of m n) (λ d. refl) a (written a)

      all_written : (es : BareExprs) → Sure AllGive (fold_all ops g es) (fold_all new f es)
      all_written no_trees = refl
      all_written (tree e es) =
          sure_two Gives AllGive AllGive (λ d ds. d ∷ ds) (on_two (λ m ms. m ∷ ms))
          (λ d ds r s p q i. on_two (λ m ms. m ∷ ms) (p i) (q i))
          (made e) (fold_all ops g es) (ev e) (fold_all new f es) (written e) (all_written es)

      fields_written : (fs : BareFields)
          → Sure FieldsGive (fold_fields ops g fs) (fold_fields new f fs)
      fields_written no_fields = refl
      fields_written (field j e fs) =
          sure_two Gives FieldsGive FieldsGive (λ d ds. (j, d) ∷ ds) (on_two (λ m ms. (j, m) ∷ ms))
          (λ d ds r s p q i. on_two (λ m ms. (j, m) ∷ ms) (p i) (q i))
          (made e) (fold_fields ops g fs) (ev e) (fold_fields new f fs) (written e)
          (fields_written fs)

  unbound : (n : Text) (t : Option BareType) → Sure Gives (own ops n t) (own new n t)
  unbound n t = refl

  bindings : (x : Option (BareType × BareExpr)) (n : Text) (t : Option BareType)
      → Sure Gives (bound ops x n t) (bound new x n t)
  bindings None n t = refl
  bindings (Some r) n t = written (own ops) (own new) unbound r.1

  pub put_is : (e : BareExpr) → Gives (put C k e) (evaluated R E T k e)
  put_is e =
      sure_is Gives (fold ops k.bindings e) (evaluated R E T k e)
      (written (λ n t. bound ops (k.bindings n) n t) (λ n t. bound new (k.bindings n) n t)
      (λ n t. bindings (k.bindings n) n t) e)

pub request_put_first : {X : Type 0} {R : X → X → Ordering} {E : X → X → Bool} → EvaluatorLaws R E
    → RequestPutFirst R E
request_put_first laws C T k plain = put_is laws C T k plain
