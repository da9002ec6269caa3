-- A fold whose calls never fail is made child by child.
use Rattle.std.proofs.Common.{◌≡◌, List, [], ◌∷◌, Result, Ok, Err, refl}
use Rattle.cedar_builders.specs.BareExpr.{Text, BareExpr, Lit, Var, Slot, Unknown, If, And, Or, UnaryApp, BinaryApp, ExtensionFunctionApp, GetAttr, HasAttr, Like, Set, Record, Is, BareExprs, no_trees, tree, BareFields, no_fields, field}
use Rattle.cedar_builders.specs.Environment.{empty, fold, own}
use Rattle.cedar_builders.specs.Fold.{fold_with, fold_all, fold_fields}
use Rattle.cedar_builders.specs.Ops.{Ops}
use Rattle.cedar_builders.specs.Trees.{sure}

answered : {A : Type 0} (r : Result A ⊥) → r ≡ Ok (sure r)
answered (Ok a) = refl
answered (Err e) = absurd e

module _ {M : Type 0} (B : Ops M ⊥) where
  abbrev mutual
    -- what the builder makes of a tree
    pub made : BareExpr → M
    made (Lit l) = B.lit_of l
    made (Var v) = B.var_of v
    made (Slot s) = B.slot_of s
    made (Unknown n t) = B.unknown_of n t
    made (If a b c) = B.if_of (made a) (made b) (made c)
    made (And a b) = B.and_of (made a) (made b)
    made (Or a b) = B.or_of (made a) (made b)
    made (UnaryApp o a) = B.unary_of o (made a)
    made (BinaryApp o a b) = B.binary_of o (made a) (made b)
    made (ExtensionFunctionApp n es) = sure (B.call_of n (all_made es))
    made (GetAttr a k) = B.get_of (made a) k
    made (HasAttr a k ks) = B.has_of (made a) k ks
    made (Like a p) = B.like_of (made a) p
    made (Set es) = B.set_of (all_made es)
    made (Record fs) = B.record_of (fields_made fs)
    made (Is a n) = B.is_of (made a) n

    pub all_made : BareExprs → List M
    all_made no_trees = []
    all_made (tree e es) = made e ∷ all_made es

    pub fields_made : BareFields → List (Text × M)
    fields_made no_fields = []
    fields_made (field k e fs) = (k, made e) ∷ fields_made fs

  mutual
    made_is : (e : BareExpr) → fold_with B (own B) e ≡ Ok (made e)
    made_is (Lit l) = refl
    made_is (Var v) = refl
    made_is (Slot s) = refl
    made_is (Unknown n t) = refl
    made_is (If a b c) = rw (made_is a, made_is b, made_is c) refl
    made_is (And a b) = rw (made_is a, made_is b) refl
    made_is (Or a b) = rw (made_is a, made_is b) refl
    made_is (UnaryApp o a) = rw (made_is a) refl
    made_is (BinaryApp o a b) = rw (made_is a, made_is b) refl
    made_is (ExtensionFunctionApp n es) = rw (all_made_is es) (answered (B.call_of n (all_made es)))
    made_is (GetAttr a k) = rw (made_is a) refl
    made_is (HasAttr a k ks) = rw (made_is a) refl
    made_is (Like a p) = rw (made_is a) refl
    made_is (Set es) = rw (all_made_is es) refl
    made_is (Record fs) = rw (fields_made_is fs) refl
    made_is (Is a n) = rw (made_is a) refl

    all_made_is : (es : BareExprs) → fold_all B (own B) es ≡ Ok (all_made es)
    all_made_is no_trees = refl
    all_made_is (tree e es) = rw (made_is e, all_made_is es) refl

    fields_made_is : (fs : BareFields) → fold_fields B (own B) fs ≡ Ok (fields_made fs)
    fields_made_is no_fields = refl
    fields_made_is (field k e fs) = rw (made_is e, fields_made_is fs) refl

  pub fold_is : (e : BareExpr) → fold B empty e ≡ Ok (made e)
  fold_is e = made_is e
