-- A tree that can only be a Boolean or a fault, by its root, is simplified to one that can only be one too.
use Rattle.std.proofs.Common.{◌≡◌, refl, Bool, true, false, Option, Some, None, Result, Ok, Err}
use Rattle.std.proofs.lemmas.Bool.{false≢true}
use Rattle.std.specs.Prelude.{if◌then◌else◌}
use Rattle.std.specs.declared.cmp.Ordering.{Ordering}
use Rattle.cedar_terms.specs.Literals.{BoolLit}
use Rattle.cedar_terms.specs.Types.{BareType}
use Rattle.cedar_builders.specs.BareExpr.{Text, BareExpr, Lit, And, Or, UnaryApp, BinaryApp, HasAttr, Like, Is}
use Rattle.cedar_builders.specs.Ops.{Ops}
use Rattle.cedar_builders.specs.Fold.{on_one, on_two, fold_with}
use Rattle.semantics_values.specs.BareValue.{BareCall, LitValue}
use Rattle.semantics_eval.specs.Outcomes.{Outcome, strict, strict_two}
use Rattle.semantics_eval.specs.Attributes.{has_path, like_in, is_in}
use Rattle.semantics_eval.specs.Operators.{apply_one, apply_two}
use Rattle.semantics_simplify.specs.Kinds.{is_boolean_kind}
use Rattle.semantics_simplify.specs.Simplified.{Simplified, Residual, tree_of, outcome_of, known_or, calls_nothing, is_boolean}
use Rattle.semantics_simplify.specs.Simplifier.{and_or, or_or, simplifier_ops}
use Rattle.semantics_simplify.proofs.Means.{no_value}
use Rattle.semantics_simplify.proofs.Truths.{IsTruth, of_strict, of_strict_two, of_one, of_path, of_like, of_is, of_two}

module _ {X : Type 0} where
  -- it can only be a Boolean, if there is one
  abbrev pub IfBoolean : Result (Simplified X) ⊥ → Type 0
  IfBoolean (Ok p) = is_boolean p ≡ true
  IfBoolean (Err e) = ⊥

  known_boolean : (e : BareExpr) (m : Outcome X) → is_boolean_kind e ≡ true → IsTruth m
      → is_boolean (known_or e m) ≡ true
  known_boolean e (Ok (LitValue (BoolLit b))) h k = refl
  known_boolean e (Ok t) h k = absurd (no_value _ t k)
  known_boolean e (Err x) h k = h

  right_boolean : (q : Simplified X) (e : BareExpr) → is_boolean_kind e ≡ true
      → is_boolean (if is_boolean q then q else Residual e) ≡ true
  right_boolean q e h = go (is_boolean q) refl
    where
      go : (b : Bool) → is_boolean q ≡ b → is_boolean (if b then q else Residual e) ≡ true
      go true is = is
      go false is = h

  either_boolean : (b : Bool) (p : Simplified X) (e : BareExpr) → is_boolean p ≡ true
      → is_boolean_kind e ≡ true → is_boolean (if b then p else Residual e) ≡ true
  either_boolean true p e h k = h
  either_boolean false p e h k = k

  and_boolean : (e : BareExpr) (b : Option Bool) (q : Simplified X) → is_boolean_kind e ≡ true
      → is_boolean (and_or e b q) ≡ true
  and_boolean e None q h = h
  and_boolean e (Some true) q h = right_boolean q e h
  and_boolean e (Some false) q h = either_boolean (calls_nothing q) _ e refl h

  or_boolean : (e : BareExpr) (b : Option Bool) (q : Simplified X) → is_boolean_kind e ≡ true
      → is_boolean (or_or e b q) ≡ true
  or_boolean e None q h = h
  or_boolean e (Some true) q h = either_boolean (calls_nothing q) _ e refl h
  or_boolean e (Some false) q h = right_boolean q e h

  one_boolean : (h : Simplified X → Simplified X) → ((p : Simplified X) → is_boolean (h p) ≡ true)
      → (x : Result (Simplified X) ⊥) → IfBoolean (on_one h x)
  one_boolean h k (Ok p) = k p
  one_boolean h k (Err e) = absurd e

  two_boolean : (h : Simplified X → Simplified X → Simplified X) → ((p q : Simplified X) → is_boolean (h p q) ≡ true)
      → (x y : Result (Simplified X) ⊥) → IfBoolean (on_two h x y)
  two_boolean h k (Ok p) y = one_boolean (h p) (k p) y
  two_boolean h k (Err e) y = absurd e

module _ {X : Type 0} (R : X → X → Ordering) (E : X → X → Bool) (C : X → BareCall)
    (g : Text → Option BareType → Result (Simplified X) ⊥) where
  abbrev ops : Ops (Simplified X) ⊥
  ops = simplifier_ops R E C

  abbrev made : BareExpr → Result (Simplified X) ⊥
  made = fold_with ops g

  pub boolean_made : (e : BareExpr) → is_boolean_kind e ≡ true → IfBoolean (made e)
  boolean_made (Lit (BoolLit b)) h = refl
  boolean_made (And a b) h =
      two_boolean ops.and_of (λ p q. and_boolean (And (tree_of C p) (tree_of C q)) _ q refl)
      (made a) (made b)
  boolean_made (Or a b) h =
      two_boolean ops.or_of (λ p q. or_boolean (Or (tree_of C p) (tree_of C q)) _ q refl)
      (made a) (made b)
  boolean_made (UnaryApp u a) h =
      one_boolean (ops.unary_of u)
      (λ p. known_boolean (UnaryApp u (tree_of C p)) (strict (apply_one u) (outcome_of p)) h
      (of_strict (apply_one u) (of_one u h) (outcome_of p)))
      (made a)
  boolean_made (BinaryApp u a b) h =
      two_boolean (ops.binary_of u)
      (λ p q. known_boolean (BinaryApp u (tree_of C p) (tree_of C q))
      (strict_two (apply_two R E u) (outcome_of p) (outcome_of q)) h
      (of_strict_two (apply_two R E u) (of_two R E u h) (outcome_of p) (outcome_of q)))
      (made a) (made b)
  boolean_made (HasAttr a k ks) h =
      one_boolean (λ p. ops.has_of p k ks)
      (λ p. known_boolean (HasAttr (tree_of C p) k ks) (has_path (outcome_of p) k ks) refl
      (of_path (outcome_of p) k ks))
      (made a)
  boolean_made (Like a m) h =
      one_boolean (λ p. ops.like_of p m)
      (λ p. known_boolean (Like (tree_of C p) m) (strict (like_in m) (outcome_of p)) refl
      (of_strict (like_in m) (of_like m) (outcome_of p)))
      (made a)
  boolean_made (Is a n) h =
      one_boolean (λ p. ops.is_of p n)
      (λ p. known_boolean (Is (tree_of C p) n) (strict (is_in n) (outcome_of p)) refl
      (of_strict (is_in n) (of_is n) (outcome_of p)))
      (made a)
  boolean_made e h = absurd (false≢true h)
