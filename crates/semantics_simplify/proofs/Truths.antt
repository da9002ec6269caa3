-- A tree that can only be a Boolean or a fault, by its root, is one, or is refused.
use Rattle.std.proofs.Common.{◌≡◌, refl, Bool, true, false, List, [], ◌∷◌, ℤ, int_lt, int_le, Option, Some, None, Result, Ok, Err}
use Rattle.std.proofs.lemmas.Bool.{false≢true}
use Rattle.std.specs.List.{list_all, list_any}
use Rattle.std.specs.declared.cmp.Ordering.{Ordering}
use Rattle.cedar_names.specs.Names.{BareName}
use Rattle.cedar_terms.specs.Literals.{BoolLit, LongLit, StringLit, EntityLit}
use Rattle.cedar_terms.specs.Types.{BareType}
use Rattle.cedar_terms.specs.declared.ops.UnaryOp.{UnaryOp}
use Rattle.cedar_terms.specs.declared.ops.UnaryOp.TheVariants as Unary
use Rattle.cedar_terms.specs.declared.ops.BinaryOp.{BinaryOp}
use Rattle.cedar_terms.specs.declared.ops.BinaryOp.TheVariants as Binary
use Rattle.cedar_terms.specs.declared.pattern.PatternElem.{PatternElem}
use Rattle.cedar_builders.specs.BareExpr.{Text, BareExpr, Lit, And, Or, UnaryApp, BinaryApp, HasAttr, Like, Is}
use Rattle.cedar_builders.specs.Fold.{on_one, on_two, fold_with}
use Rattle.semantics_values.specs.BareValue.{BareValue, LitValue, SetValue, RecordValue, list_of, ExtensionValue}
use Rattle.semantics_eval.specs.Outcomes.{Mistake, Outcome, settled, truth, truth_of, strict, strict_two, chosen, if_outcome, as_truth, and_outcome, or_outcome}
use Rattle.semantics_eval.specs.Longs.{compared}
use Rattle.semantics_eval.specs.Operators.{apply_one, on_set, on_sets, has_member, apply_two}
use Rattle.semantics_eval.specs.Attributes.{has_in, get_in, has_path, like_in, is_in}
use Rattle.semantics_eval.specs.Evaluator.{evaluator_ops}
use Rattle.semantics_simplify.specs.Kinds.{is_unary_test, is_binary_test, is_boolean_kind}

module _ {X : Type 0} where
  -- a Boolean or a fault: what has to be a Boolean is kept
  abbrev pub IsTruth : Outcome X → Type 0
  IsTruth m = strict as_truth m ≡ m

  -- of an answer
  abbrev pub IfTruth : Result (Outcome X) BareName → Type 0
  IfTruth (Ok m) = IsTruth m
  IfTruth (Err n) = Unit {0}

  if_one : (op : Outcome X → Outcome X) → ((m : Outcome X) → IsTruth (op m))
      → (r : Result (Outcome X) BareName) → IfTruth (on_one op r)
  if_one op h (Ok m) = h m
  if_one op h (Err n) = tt

  if_two : (op : Outcome X → Outcome X → Outcome X) → ((m n : Outcome X) → IsTruth (op m n))
      → (r s : Result (Outcome X) BareName) → IfTruth (on_two op r s)
  if_two op h (Ok m) s = if_one (op m) (h m) s
  if_two op h (Err n) s = tt

  pub of_strict : (f : BareValue X → Result (BareValue X) Mistake)
      → ((t : BareValue X) → IsTruth (settled (f t))) → (m : Outcome X) → IsTruth (strict f m)
  of_strict f h (Ok t) = h t
  of_strict f h (Err e) = refl

  pub of_strict_two : (f : BareValue X → BareValue X → Result (BareValue X) Mistake)
      → ((t u : BareValue X) → IsTruth (settled (f t u))) → (m n : Outcome X)
      → IsTruth (strict_two f m n)
  of_strict_two f h (Ok t) n = of_strict (f t) (h t) n
  of_strict_two f h (Err e) n = refl

  of_chosen : (b : Option Bool) (m n : Outcome X) → IsTruth m → IsTruth n → IsTruth (chosen b m n)
  of_chosen None m n h k = refl
  of_chosen (Some true) m n h k = h
  of_chosen (Some false) m n h k = k

  of_if : (s m n : Outcome X) → IsTruth m → IsTruth n → IsTruth (if_outcome s m n)
  of_if (Ok t) m n h k = of_chosen (truth_of t) m n h k
  of_if (Err e) m n h k = refl

  as_itself : (t : BareValue X) → IsTruth (settled (as_truth t))
  as_itself (LitValue (BoolLit b)) = refl
  as_itself t = refl

  of_and : (m n : Outcome X) → IsTruth (and_outcome m n)
  of_and m n = of_if m (strict as_truth n) (Ok (truth false)) (of_strict as_truth as_itself n) refl

  of_or : (m n : Outcome X) → IsTruth (or_outcome m n)
  of_or m n = of_if m (Ok (truth true)) (strict as_truth n) refl (of_strict as_truth as_itself n)

  pub of_one : (o : UnaryOp) → is_unary_test o ≡ true → (t : BareValue X)
      → IsTruth (settled (apply_one o t))
  of_one Unary.Not h (LitValue (BoolLit b)) = refl
  of_one Unary.Neg h t = absurd (false≢true h)
  of_one Unary.IsEmpty h (SetValue ts) = refl
  of_one o h t = refl

  of_set : (f : List (BareValue X) → Bool) (t : BareValue X) → IsTruth (settled (on_set f t))
  of_set f (SetValue ts) = refl
  of_set f t = refl

  of_sets : (f : List (BareValue X) → List (BareValue X) → Bool) (t u : BareValue X)
      → IsTruth (settled (on_sets f t u))
  of_sets f (SetValue ts) u = of_set (f (list_of ts)) u
  of_sets f t u = refl

  of_compared : (f : ℤ → ℤ → Bool) (t u : BareValue X) → IsTruth (settled (compared f t u))
  of_compared f (LitValue (LongLit m)) (LitValue (LongLit n)) = refl
  of_compared f (ExtensionValue x c) (ExtensionValue y d) = refl
  of_compared f t u = refl

  of_has : (k : Text) (t : BareValue X) → IsTruth (settled (has_in k t))
  of_has k (RecordValue ps) = refl
  of_has k (LitValue (EntityLit u)) = refl
  of_has k t = refl

  pub of_path : (m : Outcome X) (k : Text) (ks : List Text) → IsTruth (has_path m k ks)
  of_path m k [] = of_strict (has_in k) (of_has k) m
  of_path m k (j ∷ js) =
      of_if (strict (has_in k) m) (has_path (strict (get_in k) m) j js) (Ok (truth false))
      (of_path (strict (get_in k) m) j js) refl

  pub of_like : (p : List PatternElem) (t : BareValue X) → IsTruth (settled (like_in p t))
  of_like p (LitValue (StringLit s)) = refl
  of_like p t = refl

  pub of_is : (n : BareName) (t : BareValue X) → IsTruth (settled (is_in n t))
  of_is n (LitValue (EntityLit u)) = refl
  of_is n t = refl

  module _ (R : X → X → Ordering) (E : X → X → Bool) where
    pub of_two : (o : BinaryOp) → is_binary_test o ≡ true → (t u : BareValue X)
        → IsTruth (settled (apply_two R E o t u))
    of_two Binary.Eq h t u = refl
    of_two Binary.Less h t u = of_compared int_lt t u
    of_two Binary.LessEq h t u = of_compared int_le t u
    of_two Binary.In h t u = refl
    of_two Binary.Contains h t u = of_set (λ ts. has_member R E ts u) t
    of_two Binary.ContainsAll h t u = of_sets (λ ts us. list_all (has_member R E ts) us) t u
    of_two Binary.ContainsAny h t u = of_sets (λ ts us. list_any (has_member R E ts) us) t u
    of_two Binary.HasTag h t u = refl
    of_two o h t u = absurd (false≢true h)

    module _ (f : Text → Option BareType → Result (Outcome X) BareName) where
      abbrev ev : BareExpr → Result (Outcome X) BareName
      ev = fold_with (evaluator_ops R E) f

      pub boolean : (e : BareExpr) → is_boolean_kind e ≡ true → IfTruth (ev e)
      boolean (Lit (BoolLit b)) h = refl
      boolean (And a b) h = if_two and_outcome of_and (ev a) (ev b)
      boolean (Or a b) h = if_two or_outcome of_or (ev a) (ev b)
      boolean (UnaryApp o a) h = if_one _ (of_strict (apply_one o) (of_one o h)) (ev a)
      boolean (BinaryApp o a b) h =
          if_two _ (of_strict_two (apply_two R E o) (of_two o h)) (ev a) (ev b)
      boolean (HasAttr a k ks) h = if_one _ (λ m. of_path m k ks) (ev a)
      boolean (Like a p) h = if_one _ (of_strict (like_in p) (of_like p)) (ev a)
      boolean (Is a n) h = if_one _ (of_strict (is_in n) (of_is n)) (ev a)
      boolean e h = absurd (false≢true h)
