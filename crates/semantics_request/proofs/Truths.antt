-- A tree that can only be a Boolean or a fault, by its root, is one, or is refused.
use Rattle.std.proofs.Common.{◌≡◌, refl, Bool, true, false, List, [], ◌∷◌, ℤ, int_lt, int_le, Option, Some, None, Result, Ok, Err}
use Rattle.std.proofs.lemmas.Bool.{false≢true}
use Rattle.std.specs.List.{list_all, list_any}
use Rattle.std.specs.Ordering.{is_lt, is_le}
use Rattle.std.specs.declared.cmp.Ordering.{Ordering}
use Rattle.cedar_names.specs.Names.{BareName}
use Rattle.cedar_terms.specs.Entities.{BareEntityUID}
use Rattle.cedar_terms.specs.Literals.{BoolLit, LongLit, StringLit, EntityLit}
use Rattle.cedar_terms.specs.Types.{BareType}
use Rattle.cedar_terms.specs.declared.ops.UnaryOp.{UnaryOp}
use Rattle.cedar_terms.specs.declared.ops.UnaryOp.TheVariants as Unary
use Rattle.cedar_terms.specs.declared.ops.BinaryOp.{BinaryOp}
use Rattle.cedar_terms.specs.declared.ops.BinaryOp.TheVariants as Binary
use Rattle.cedar_terms.specs.declared.pattern.PatternElem.{PatternElem}
use Rattle.cedar_builders.specs.BareExpr.{Text, BareExpr, Lit, And, Or, UnaryApp, BinaryApp, HasAttr, Like, Is}
use Rattle.cedar_builders.specs.Fold.{on_one, on_two, and_then, fold_with}
use Rattle.semantics_values.specs.BareValue.{BareValue, LitValue, SetValue, RecordValue, BarePairs, list_of, ExtensionValue}
use Rattle.semantics_eval.specs.Outcomes.{Outcome, settled, truth, truth_of, strict, chosen, if_outcome, as_truth, and_outcome, or_outcome}
use Rattle.semantics_eval.specs.Longs.{compared}
use Rattle.semantics_eval.specs.Operators.{apply_one, on_set, on_sets, has_member}
use Rattle.semantics_eval.specs.Attributes.{has_in, like_in, is_in}
use Rattle.semantics_simplify.specs.Kinds.{is_unary_test, is_binary_test, is_boolean_kind}
use Rattle.semantics_request.specs.Entities.{Entity, Dereference, NotKnown, NoSuchEntity, Data, Entities, is_found_at, is_under_listed, entities_in, under, has_attribute, has_tag}
use Rattle.semantics_request.specs.Requests.{Functions}
use Rattle.semantics_request.specs.Evaluator.{then_two, path_by, apply_over, compared_or, is_ordered, apply_by}
use Rattle.semantics_request.proofs.Answered.{Answers, ops_by}

module _ {X : Type 0} where
  -- a Boolean or a fault: what has to be a Boolean is kept
  abbrev pub IsTruth : Outcome X → Type 0
  IsTruth m = strict as_truth m ≡ m

  -- of an answer
  abbrev pub IfTruth : Result (Outcome X) BareName → Type 0
  IfTruth (Ok m) = IsTruth m
  IfTruth (Err n) = Unit {0}

  if_one : (op : Outcome X → Outcome X) → ((m : Outcome X) → IsTruth (op m))
      → (r : Result (Outcome X) BareName) → IfTruth (on_one op r)
  if_one op h (Ok m) = h m
  if_one op h (Err n) = tt

  if_two : (op : Outcome X → Outcome X → Outcome X) → ((m n : Outcome X) → IsTruth (op m n))
      → (r s : Result (Outcome X) BareName) → IfTruth (on_two op r s)
  if_two op h (Ok m) s = if_one (op m) (h m) s
  if_two op h (Err n) s = tt

  of_then : (f : BareValue X → Outcome X) → ((t : BareValue X) → IsTruth (f t)) → (m : Outcome X)
      → IsTruth (and_then f m)
  of_then f h (Ok t) = h t
  of_then f h (Err e) = refl

  of_then_two : (f : BareValue X → BareValue X → Outcome X)
      → ((t u : BareValue X) → IsTruth (f t u)) → (m n : Outcome X) → IsTruth (then_two f m n)
  of_then_two f h (Ok t) n = of_then (f t) (h t) n
  of_then_two f h (Err e) n = refl

  of_chosen : (b : Option Bool) (m n : Outcome X) → IsTruth m → IsTruth n → IsTruth (chosen b m n)
  of_chosen None m n h k = refl
  of_chosen (Some true) m n h k = h
  of_chosen (Some false) m n h k = k

  of_if : (s m n : Outcome X) → IsTruth m → IsTruth n → IsTruth (if_outcome s m n)
  of_if (Ok t) m n h k = of_chosen (truth_of t) m n h k
  of_if (Err e) m n h k = refl

  as_itself : (t : BareValue X) → IsTruth (settled (as_truth t))
  as_itself (LitValue (BoolLit b)) = refl
  as_itself t = refl

  as_a_truth : (m : Outcome X) → IsTruth (strict as_truth m)
  as_a_truth = of_then (λ t. settled (as_truth t)) as_itself

  of_and : (m n : Outcome X) → IsTruth (and_outcome m n)
  of_and m n = of_if m (strict as_truth n) (Ok (truth false)) (as_a_truth n) refl

  of_or : (m n : Outcome X) → IsTruth (or_outcome m n)
  of_or m n = of_if m (Ok (truth true)) (strict as_truth n) refl (as_a_truth n)

  of_one : (o : UnaryOp) → is_unary_test o ≡ true → (t : BareValue X)
      → IsTruth (settled (apply_one o t))
  of_one Unary.Not h (LitValue (BoolLit b)) = refl
  of_one Unary.Neg h t = absurd (false≢true h)
  of_one Unary.IsEmpty h (SetValue ts) = refl
  of_one o h t = refl

  of_set : (f : List (BareValue X) → Bool) (t : BareValue X) → IsTruth (settled (on_set f t))
  of_set f (SetValue ts) = refl
  of_set f t = refl

  of_sets : (f : List (BareValue X) → List (BareValue X) → Bool) (t u : BareValue X)
      → IsTruth (settled (on_sets f t u))
  of_sets f (SetValue ts) u = of_set (f (list_of ts)) u
  of_sets f t u = refl

  of_compared : (f : ℤ → ℤ → Bool) (t u : BareValue X) → IsTruth (settled (compared f t u))
  of_compared f (LitValue (LongLit m)) (LitValue (LongLit n)) = refl
  of_compared f (ExtensionValue x c) (ExtensionValue y d) = refl
  of_compared f t u = refl

  pub of_has : (k : Text) (t : BareValue X) → IsTruth (settled (has_in k t))
  of_has k (RecordValue ps) = refl
  of_has k (LitValue (EntityLit u)) = refl
  of_has k t = refl

  pub of_path : (has get : Text → BareValue X → Outcome X)
      → ((k : Text) (t : BareValue X) → IsTruth (has k t))
      → (m : Outcome X) (k : Text) (ks : List Text) → IsTruth (path_by has get m k ks)
  of_path has get h m k [] = of_then (has k) (h k) m
  of_path has get h m k (j ∷ js) =
      of_if (and_then (has k) m) (path_by has get (and_then (get k) m) j js) (Ok (truth false))
      (of_path has get h (and_then (get k) m) j js) refl

  of_like : (p : List PatternElem) (t : BareValue X) → IsTruth (settled (like_in p t))
  of_like p (LitValue (StringLit s)) = refl
  of_like p t = refl

  of_is : (n : BareName) (t : BareValue X) → IsTruth (settled (is_in n t))
  of_is n (LitValue (EntityLit u)) = refl
  of_is n t = refl

  -- what an evaluator is asked by tests are Booleans or faults
  pub record AreTruths (a : Answers X) : Type 0 where
    pub two :
        (o : BinaryOp) → is_binary_test o ≡ true → (t u : BareValue X) → IsTruth (a.two o t u)
    pub has : (k : Text) (t : BareValue X) → IsTruth (a.has k t)

  -- of a store
  found_truth : (f : Entity X → BarePairs X) (k : Text) (x : Dereference X) → IsTruth (is_found_at f k x)
  found_truth f k NotKnown = refl
  found_truth f k NoSuchEntity = refl
  found_truth f k (Data d) = refl

  under_truth : (u : BareEntityUID) (x : Dereference X) (o : Option (List BareEntityUID))
      → IsTruth (is_under_listed u x o)
  under_truth u x None = refl
  under_truth u NotKnown (Some vs) = refl
  under_truth u NoSuchEntity (Some vs) = refl
  under_truth u (Data d) (Some vs) = refl

  module _ (s : Entities X) where
    of_under : (t u : BareValue X) → IsTruth (under s t u)
    of_under (LitValue (EntityLit u)) t = under_truth u (s u) (entities_in t)
    of_under t u = refl

    of_has_tag : (t u : BareValue X) → IsTruth (has_tag s t u)
    of_has_tag (LitValue (EntityLit u)) (LitValue (StringLit k)) =
        found_truth (λ d. d.tags) k (s u)
    of_has_tag t u = refl

    pub of_has_attribute : (k : Text) (t : BareValue X) → IsTruth (has_attribute s k t)
    of_has_attribute k (LitValue (EntityLit u)) = found_truth (λ d. d.attributes) k (s u)
    of_has_attribute k t = of_has k t

    pub of_two : (R : X → X → Ordering) (E : X → X → Bool) (o : BinaryOp)
        → is_binary_test o ≡ true → (t u : BareValue X) → IsTruth (apply_over R E s o t u)
    of_two R E Binary.Eq h t u = refl
    of_two R E Binary.Less h t u = of_compared int_lt t u
    of_two R E Binary.LessEq h t u = of_compared int_le t u
    of_two R E Binary.In h t u = of_under t u
    of_two R E Binary.Contains h t u = of_set (λ ts. has_member R E ts u) t
    of_two R E Binary.ContainsAll h t u = of_sets (λ ts us. list_all (has_member R E ts) us) t u
    of_two R E Binary.ContainsAny h t u = of_sets (λ ts us. list_any (has_member R E ts) us) t u
    of_two R E Binary.HasTag h t u = of_has_tag t u
    of_two R E o h t u = absurd (false≢true h)

    of_ordered : (g : Ordering → Bool) (o : Option Ordering) → IsTruth (is_ordered g o)
    of_ordered g None = refl
    of_ordered g (Some o) = refl

    of_compared_or : (O : X → X → Option Ordering) (g : Ordering → Bool) (t u : BareValue X)
        (m : Outcome X) → IsTruth m → IsTruth (compared_or O g t u m)
    of_compared_or O g (ExtensionValue x c) (ExtensionValue y d) m h = of_ordered g (O x y)
    of_compared_or O g (ExtensionValue x c) u m h = h
    of_compared_or O g t u m h = h

    -- and where a table compares extension values
    pub of_both : (R : X → X → Ordering) (E : X → X → Bool) (T : Functions X) (o : BinaryOp)
        → is_binary_test o ≡ true → (t u : BareValue X) → IsTruth (apply_by R E T s o t u)
    of_both R E T Binary.Less h t u =
        of_compared_or T.compare is_lt t u _ (of_two R E Binary.Less h t u)
    of_both R E T Binary.LessEq h t u =
        of_compared_or T.compare is_le t u _ (of_two R E Binary.LessEq h t u)
    of_both R E T o h t u = of_two R E o h t u

  module _ (R : X → X → Ordering) (E : X → X → Bool) (a : Answers X) (truths : AreTruths a)
      (f : Text → Option BareType → Result (Outcome X) BareName) where
    abbrev ev : BareExpr → Result (Outcome X) BareName
    ev = fold_with (ops_by R E a) f

    pub boolean : (e : BareExpr) → is_boolean_kind e ≡ true → IfTruth (ev e)
    boolean (Lit (BoolLit b)) h = refl
    boolean (And a b) h = if_two and_outcome of_and (ev a) (ev b)
    boolean (Or a b) h = if_two or_outcome of_or (ev a) (ev b)
    boolean (UnaryApp o b) h =
        if_one (strict (apply_one o)) (of_then (λ t. settled (apply_one o t)) (of_one o h)) (ev b)
    boolean (BinaryApp o b c) h =
        if_two (then_two (a.two o)) (of_then_two (a.two o) (truths.two o h)) (ev b) (ev c)
    boolean (HasAttr b k ks) h =
        if_one (λ m. path_by a.has a.get m k ks) (λ m. of_path a.has a.get truths.has m k ks) (ev b)
    boolean (Like b p) h =
        if_one (strict (like_in p)) (of_then (λ t. settled (like_in p t)) (of_like p)) (ev b)
    boolean (Is b n) h =
        if_one (strict (is_in n)) (of_then (λ t. settled (is_in n t)) (of_is n)) (ev b)
    boolean e h = absurd (false≢true h)
