-- A fold moved past substitution: the one induction over trees that the laws stand on.
use Rattle.std.proofs.Common.{◌≡◌, refl, sym, ap, Bool, ◌&&◌, ◌||◌, Option, Some, None, Result, Ok, Err}
use Rattle.cedar_terms.specs.Literals.{BoolLit}
use Rattle.cedar_terms.specs.Types.{BareType}
use Rattle.cedar_builders.specs.BareExpr.{Text, BareExpr, Lit, Var, Slot, Unknown, If, And, Or, UnaryApp, BinaryApp, ExtensionFunctionApp, GetAttr, HasAttr, Like, Set, Record, Is, BareExprs, no_trees, tree, trees_of, BareFields, no_fields, field, fields_of}
use Rattle.cedar_builders.specs.Ops.{Ops}
use Rattle.cedar_builders.specs.Fold.{on_one, on_two, on_three, and_then, fold_with, fold_all, fold_fields}
use Rattle.cedar_builders.specs.Trees.{bool_of, folded, and_made, or_made, tree_ops, sure}
use Rattle.cedar_builders.specs.Lawful.{Lawful}

-- what never fails, made of parts that never fail
pub sure_one : {A M : Type 0} (f : A → M) (a : Result A ⊥) → sure (on_one f a) ≡ f (sure a)
sure_one f (Ok a) = refl
sure_one f (Err e) = absurd e

pub sure_two : {A C M : Type 0} (f : A → C → M) (a : Result A ⊥) (c : Result C ⊥) → sure (on_two f a c) ≡ f (sure a) (sure c)
sure_two f (Ok a) c = sure_one (f a) c
sure_two f (Err e) c = absurd e

pub sure_three : {A C D M : Type 0} (f : A → C → D → M) (a : Result A ⊥) (c : Result C ⊥) (d : Result D ⊥) → sure (on_three f a c d) ≡ f (sure a) (sure c) (sure d)
sure_three f (Ok a) c d = sure_two (f a) c d
sure_three f (Err e) c d = absurd e

pub sure_then : {A M : Type 0} (f : A → M) (a : Result A ⊥) → sure (and_then (λ x. Ok (f x)) a) ≡ f (sure a)
sure_then f (Ok a) = refl
sure_then f (Err e) = absurd e

-- the Boolean of a tree says which literal the tree is
pub is_literal : (a : BareExpr) (b : Bool) → bool_of a ≡ Some b → a ≡ Lit (BoolLit b)
is_literal (Lit (BoolLit c)) b h = cc
is_literal e b h = cc

module _ {M F : Type 0} (B : Ops M F) (laws : Lawful B) (f : Text → Option BareType → Result M F) where
  and_moved : (a b : BareExpr) → fold_with B f (and_made a b) ≡ on_two B.and_of (fold_with B f a) (fold_with B f b)
  and_moved a b = go (bool_of a) (bool_of b) refl refl
    where
      go : (x y : Option Bool) → bool_of a ≡ x → bool_of b ≡ y → fold_with B f (folded ◌&&◌ x y (And a b)) ≡ on_two B.and_of (fold_with B f a) (fold_with B f b)
      go (Some p) (Some q) h k = rw (is_literal a p h, is_literal b q k) (ap Ok (sym (laws.and_of_literals p q)))
      go (Some p) None h k = refl
      go None y h k = refl

  or_moved : (a b : BareExpr) → fold_with B f (or_made a b) ≡ on_two B.or_of (fold_with B f a) (fold_with B f b)
  or_moved a b = go (bool_of a) (bool_of b) refl refl
    where
      go : (x y : Option Bool) → bool_of a ≡ x → bool_of b ≡ y → fold_with B f (folded ◌||◌ x y (Or a b)) ≡ on_two B.or_of (fold_with B f a) (fold_with B f b)
      go (Some p) (Some q) h k = rw (is_literal a p h, is_literal b q k) (ap Ok (sym (laws.or_of_literals p q)))
      go (Some p) None h k = refl
      go None y h k = refl

  module _ (g : Text → Option BareType → Result BareExpr ⊥) where
    mutual
      pub moved : (e : BareExpr) → fold_with B f (sure (fold_with tree_ops g e)) ≡ fold_with B (λ n t. fold_with B f (sure (g n t))) e
      moved (Lit l) = refl
      moved (Var v) = refl
      moved (Slot s) = refl
      moved (Unknown n t) = refl
      moved (If a b c) = simp (sure_three, moved a, moved b, moved c)
      moved (And a b) = simp (sure_two, and_moved, moved a, moved b)
      moved (Or a b) = simp (sure_two, or_moved, moved a, moved b)
      moved (UnaryApp o a) = simp (sure_one, moved a)
      moved (BinaryApp o a b) = simp (sure_two, moved a, moved b)
      moved (ExtensionFunctionApp n es) = simp (sure_then, moved_all es)
      moved (GetAttr a k) = simp (sure_one, moved a)
      moved (HasAttr a k ks) = simp (sure_one, moved a)
      moved (Like a p) = simp (sure_one, moved a)
      moved (Set es) = simp (sure_one, moved_all es)
      moved (Record fs) = simp (sure_one, moved_fields fs)
      moved (Is a n) = simp (sure_one, moved a)

      pub moved_all : (es : BareExprs) → fold_all B f (trees_of (sure (fold_all tree_ops g es))) ≡ fold_all B (λ n t. fold_with B f (sure (g n t))) es
      moved_all no_trees = refl
      moved_all (tree e es) = simp (sure_two, moved e, moved_all es)

      pub moved_fields : (fs : BareFields) → fold_fields B f (fields_of (sure (fold_fields tree_ops g fs))) ≡ fold_fields B (λ n t. fold_with B f (sure (g n t))) fs
      moved_fields no_fields = refl
      moved_fields (field k e fs) = simp (sure_two, moved e, moved_fields fs)
