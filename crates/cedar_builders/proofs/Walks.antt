-- Walks go from a tree to its children, and what holds of a tree where it holds of its children holds of every tree.
use Rattle.std.proofs.Common.{◌≡◌, List, [], ◌∷◌, ◌++◌, map, Option, Some, None, refl, sym, ap, ◌∙◌}
use Rattle.std.specs.Prelude.{All}
use Rattle.std.specs.List.{AllByRecursion}
use Rattle.std.specs.Option.{option_or}
use Rattle.std.proofs.lemmas.List.Elements.{All-nil, All-head, All-tail, All-cons}
use Rattle.cedar_builders.specs.BareExpr.{BareExpr, Lit, Var, Slot, Unknown, If, And, Or, UnaryApp, BinaryApp, ExtensionFunctionApp, GetAttr, HasAttr, Like, Set, Record, Is, BareExprs, no_trees, tree, BareFields, no_fields, field}
use Rattle.cedar_builders.specs.Walks.{members_of, values_of, children, walk, walk_is, forward, first_of}

-- what holds of each tree whose children it holds of holds of every tree
module _ (P : BareExpr → Type 0) (step : (e : BareExpr) → AllByRecursion P (children e) → P e) where
  mutual
    pub by_children : (e : BareExpr) → P e
    by_children (Lit l) = step (Lit l) tt
    by_children (Var v) = step (Var v) tt
    by_children (Slot s) = step (Slot s) tt
    by_children (Unknown n t) = step (Unknown n t) tt
    by_children (If a b c) = step (If a b c) (by_children a, (by_children b, (by_children c, tt)))
    by_children (And a b) = step (And a b) (by_children a, (by_children b, tt))
    by_children (Or a b) = step (Or a b) (by_children a, (by_children b, tt))
    by_children (UnaryApp o a) = step (UnaryApp o a) (by_children a, tt)
    by_children (BinaryApp o a b) = step (BinaryApp o a b) (by_children a, (by_children b, tt))
    by_children (ExtensionFunctionApp n es) = step (ExtensionFunctionApp n es) (by_members es)
    by_children (GetAttr a k) = step (GetAttr a k) (by_children a, tt)
    by_children (HasAttr a k ks) = step (HasAttr a k ks) (by_children a, tt)
    by_children (Like a p) = step (Like a p) (by_children a, tt)
    by_children (Set es) = step (Set es) (by_members es)
    by_children (Record fs) = step (Record fs) (by_values fs)
    by_children (Is a n) = step (Is a n) (by_children a, tt)

    by_members : (es : BareExprs) → AllByRecursion P (members_of es)
    by_members no_trees = tt
    by_members (tree e es) = (by_children e, by_members es)

    by_values : (fs : BareFields) → AllByRecursion P (values_of fs)
    by_values no_fields = tt
    by_values (field k e fs) = (by_children e, by_values fs)

-- where two steps agree on what they made of the children, the walks agree
pub same_walks : {A B : Type 0} (f : A → B) (step : BareExpr → List A → A) (other : BareExpr → List B → B) → ((e : BareExpr) (xs : List A) → f (step e xs) ≡ other e (map f xs)) → (e : BareExpr) → f (walk step e) ≡ walk other e
same_walks f step other same =
    by_children (λ e. f (walk step e) ≡ walk other e) (λ e below.
    ap f (walk_is step e) ∙ (same e (map (walk step) (children e)) ∙ (ap (other e) (all_same (children e) below) ∙ sym (walk_is other e))))
  where
    all_same : (es : List BareExpr) → AllByRecursion (λ e. f (walk step e) ≡ walk other e) es → map f (map (walk step) es) ≡ map (walk other) es
    all_same [] h = refl
    all_same (e ∷ es) h = rw (h.0, all_same es h.1) refl

or_thrice : {A : Type 0} → (a b c : Option A) → option_or a (option_or b c) ≡ option_or (option_or a b) c
or_thrice (Some x) b c = refl
or_thrice None b c = refl

pub first_of-append : {A B : Type 0} (f : A → Option B) (xs ys : List A) → first_of f (xs ++ ys) ≡ option_or (first_of f xs) (first_of f ys)
first_of-append f [] ys = refl
first_of-append f (x ∷ xs) ys = ap (option_or (f x)) (first_of-append f xs ys) ∙ or_thrice (f x) (first_of f xs) (first_of f ys)

-- what the lists give one after the other is the first that one of them gives
pub first_of-forward : {A B : Type 0} (f : A → Option B) (xss : List (List A)) → first_of f (forward xss) ≡ first_of (λ r. r) (map (first_of f) xss)
first_of-forward f [] = refl
first_of-forward f (xs ∷ rest) = first_of-append f xs (forward rest) ∙ ap (option_or (first_of f xs)) (first_of-forward f rest)

module _ {A : Type 0} (P : A → Type 0) where
  -- what holds of two lists holds of one after the other, and the other way round
  pub All-of_append : (xs ys : List A) → All P (xs ++ ys) → All P xs × All P ys
  All-of_append [] ys h = (All-nil P, h)
  All-of_append (x ∷ xs) ys h =
      let rest = All-of_append xs ys (All-tail P x (xs ++ ys) h) in
      (All-cons P x xs (All-head P x (xs ++ ys) h) rest.0, rest.1)
