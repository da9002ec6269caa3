-- What the operations of the evaluator keep, its folds keep: one induction over trees.
use Rattle.std.proofs.Common.{◌≡◌, refl, subst, Bool, true, List, [], ◌∷◌, Option, Result, Ok, Err}
use Rattle.std.proofs.lemmas.List.Folds.{list_all-append}
use Rattle.std.specs.List.{AllByRecursion, list_all}
use Rattle.std.specs.declared.cmp.Ordering.{Ordering}
use Rattle.std.proofs.lemmas.Bool.{and_parts}
use Rattle.cedar_names.specs.Names.{BareName}
use Rattle.cedar_names.specs.declared.slot.SlotId.{SlotId}
use Rattle.cedar_terms.specs.Types.{BareType}
use Rattle.cedar_terms.specs.declared.var.Var.{Var as Variable}
use Rattle.cedar_builders.specs.BareExpr.{Text, BareExpr, Lit, Var, Slot, Unknown, If, And, Or, UnaryApp, BinaryApp, ExtensionFunctionApp, GetAttr, HasAttr, Like, Set, Record, Is, BareExprs, no_trees, tree, BareFields, no_fields, field}
use Rattle.cedar_builders.specs.Fold.{on_one, on_two, on_three, and_then, fold_with, fold_all, fold_fields}
use Rattle.cedar_builders.specs.Walks.{preorder, walk_all, walk_fields, forward}
use Rattle.semantics_values.specs.BareValue.{BareValue, LitValue}
use Rattle.semantics_eval.specs.Outcomes.{Fault, Open, Outcome, strict, strict_two, if_outcome, and_outcome, or_outcome}
use Rattle.semantics_eval.specs.Attributes.{get_in, has_path, like_in, is_in}
use Rattle.semantics_eval.specs.Rows.{set_outcome, record_outcome}
use Rattle.semantics_eval.specs.Operators.{apply_one, apply_two}
use Rattle.semantics_eval.specs.Evaluator.{evaluator_ops}
use Rattle.semantics_eval.proofs.Steady.{IsSteady, AllRelated, PairsRelated, strict_keeps, strict_two_keeps, if_keeps, and_keeps, or_keeps, path_keeps, set_keeps, record_keeps}

-- both answers are meanings that are related, or both are refused by one name
pub data Refines {A : Type 0} (Q : A → A → Type 0) : Result A BareName → Result A BareName → Type 0 where
  both_ok : {a b : A} → Q a b → Refines Q (Ok a) (Ok b)
  both_refused : {x : BareName} → Refines Q (Err x) (Err x)

module _ {A M : Type 0} {Q : A → A → Type 0} {P : M → M → Type 0} where
  refines_one : (f g : A → M) → ((a b : A) → Q a b → P (f a) (g b)) → {r s : Result A BareName}
      → Refines Q r s → Refines P (on_one f r) (on_one g s)
  refines_one f g h (both_ok l) = both_ok (h _ _ l)
  refines_one f g h both_refused = both_refused

  refines_call : (n : BareName) {r s : Result A BareName} → Refines Q r s
      → Refines P (and_then (λ x. Err n) r) (and_then (λ x. Err n) s)
  refines_call n (both_ok l) = both_refused
  refines_call n both_refused = both_refused

module _ {A C M : Type 0} {Q : A → A → Type 0} {S : C → C → Type 0} {P : M → M → Type 0} where
  refines_two : (f g : A → C → M) → ((a b : A) (c d : C) → Q a b → S c d → P (f a c) (g b d))
      → {r s : Result A BareName} {t u : Result C BareName} → Refines Q r s → Refines S t u
      → Refines P (on_two f r t) (on_two g s u)
  refines_two f g h (both_ok {a = a} {b = b} l) k =
      refines_one (f a) (g b) (λ c d m. h a b c d l m) k
  refines_two f g h both_refused k = both_refused

module _ {A C D M : Type 0} {Q : A → A → Type 0} {S : C → C → Type 0} {T : D → D → Type 0} {P : M → M → Type 0} where
  refines_three :
      (f : A → C → D → M)
      → ((a b : A) (c d : C) (x y : D) → Q a b → S c d → T x y → P (f a c x) (f b d y))
      → {r s : Result A BareName} {t u : Result C BareName} {v w : Result D BareName}
      → Refines Q r s → Refines S t u → Refines T v w
      → Refines P (on_three f r t v) (on_three f s u w)
  refines_three f h (both_ok {a = a} {b = b} l) k m =
      refines_two (f a) (f b) (λ c d x y p q. h a b c d x y l p q) k m
  refines_three f h both_refused k m = both_refused

-- what passes at every position of a tree passes at those of each child
module _ (P : BareExpr → Bool) where
  first : (xs : List BareExpr) (rest : List (List BareExpr))
      → list_all P (forward (xs ∷ rest)) ≡ true → list_all P xs ≡ true
  first xs rest h =
      (and_parts (list_all P xs) (list_all P (forward rest))
      (subst (λ b. b ≡ true) (list_all-append P xs (forward rest)) h)).0

  others : (xs : List BareExpr) (rest : List (List BareExpr))
      → list_all P (forward (xs ∷ rest)) ≡ true → list_all P (forward rest) ≡ true
  others xs rest h =
      (and_parts (list_all P xs) (list_all P (forward rest))
      (subst (λ b. b ≡ true) (list_all-append P xs (forward rest)) h)).1

  each : (xss : List (List BareExpr)) → list_all P (forward xss) ≡ true
      → AllByRecursion (λ xs. list_all P xs ≡ true) xss
  each [] h = tt
  each (xs ∷ rest) h = (first xs rest h, each rest (others xs rest h))

  inside : (e : BareExpr) (xss : List (List BareExpr)) → list_all P (e ∷ forward xss) ≡ true
      → AllByRecursion (λ xs. list_all P xs ≡ true) xss
  inside e xss h = each xss (and_parts (P e) (list_all P (forward xss)) h).1

  only : (e a : BareExpr) → list_all P (e ∷ forward (preorder a ∷ [])) ≡ true
      → list_all P (preorder a) ≡ true
  only e a h = (inside e (preorder a ∷ []) h).0

-- the positions of the members of a set, and of the values of a record
abbrev rows : BareExprs → List (List BareExpr)
rows = walk_all (λ e below. e ∷ forward below)

abbrev calls_values : BareFields → List (List BareExpr)
calls_values = walk_fields (λ e below. e ∷ forward below)

-- P says of each leaf that what two folds make of it is related
module _ (Q : (A : Type 0) → Result A Fault → Result A Fault → Type 0) (k : IsSteady Q)
    {X : Type 0} (R : X → X → Ordering) (E : X → X → Bool) (P : BareExpr → Bool)
    (at_var : (v : Variable) → P (Var v) ≡ true → Q (BareValue X) (Err Open) (Err Open))
    (at_slot : (s : SlotId) → P (Slot s) ≡ true → Q (BareValue X) (Err Open) (Err Open))
    (f g : Text → Option BareType → Result (Outcome X) BareName)
    (at_unknown : (n : Text) (t : Option BareType) → P (Unknown n t) ≡ true
    → Refines (Q (BareValue X)) (f n t) (g n t)) where
  abbrev Same : Outcome X → Outcome X → Type 0
  Same = Q (BareValue X)

  -- an operation on one child
  of_one : (op : Outcome X → Outcome X) → ((m n : Outcome X) → Same m n → Same (op m) (op n))
      → {r s : Result (Outcome X) BareName} → Refines Same r s
      → Refines Same (on_one op r) (on_one op s)
  of_one op h = refines_one op op h

  -- an operation on two
  of_two : (op : Outcome X → Outcome X → Outcome X)
      → ((m n o p : Outcome X) → Same m n → Same o p → Same (op m o) (op n p))
      → {r s t u : Result (Outcome X) BareName} → Refines Same r s → Refines Same t u
      → Refines Same (on_two op r t) (on_two op s u)
  of_two op h = refines_two op op h

  mutual
    pub related : (e : BareExpr) → list_all P (preorder e) ≡ true
        → Refines Same (fold_with (evaluator_ops R E) f e) (fold_with (evaluator_ops R E) g e)
    related (Lit l) h = both_ok (k.ok (BareValue X) (LitValue l))
    related (Var v) h = both_ok (at_var v (and_parts (P (Var v)) true h).0)
    related (Slot s) h = both_ok (at_slot s (and_parts (P (Slot s)) true h).0)
    related (Unknown n t) h = at_unknown n t (and_parts (P (Unknown n t)) true h).0
    related (If a b c) h =
        let p = inside P (If a b c) (preorder a ∷ preorder b ∷ preorder c ∷ []) h in
        refines_three if_outcome (if_keeps Q k)
        (related a p.0) (related b p.1.0) (related c p.1.1.0)
    related (And a b) h =
        let p = inside P (And a b) (preorder a ∷ preorder b ∷ []) h in
        of_two and_outcome (and_keeps Q k) (related a p.0) (related b p.1.0)
    related (Or a b) h =
        let p = inside P (Or a b) (preorder a ∷ preorder b ∷ []) h in
        of_two or_outcome (or_keeps Q k) (related a p.0) (related b p.1.0)
    related (UnaryApp o a) h =
        of_one (strict (apply_one o)) (strict_keeps Q k (apply_one o))
        (related a (only P (UnaryApp o a) a h))
    related (BinaryApp o a b) h =
        let p = inside P (BinaryApp o a b) (preorder a ∷ preorder b ∷ []) h in
        of_two (strict_two (apply_two R E o)) (strict_two_keeps Q k (apply_two R E o))
        (related a p.0) (related b p.1.0)
    related (ExtensionFunctionApp n es) h =
        refines_call n (all_related es (and_parts (P (ExtensionFunctionApp n es)) _ h).1)
    related (GetAttr a j) h =
        of_one (strict (get_in j)) (strict_keeps Q k (get_in j))
        (related a (only P (GetAttr a j) a h))
    related (HasAttr a j js) h =
        of_one (λ m. has_path m j js) (λ m n. path_keeps Q k m n j js)
        (related a (only P (HasAttr a j js) a h))
    related (Like a p) h =
        of_one (strict (like_in p)) (strict_keeps Q k (like_in p))
        (related a (only P (Like a p) a h))
    related (Set es) h =
        refines_one (set_outcome R) (set_outcome R) (set_keeps Q k R)
        (all_related es (and_parts (P (Set es)) _ h).1)
    related (Record fs) h =
        refines_one record_outcome record_outcome (record_keeps Q k)
        (fields_related fs (and_parts (P (Record fs)) _ h).1)
    related (Is a n) h =
        of_one (strict (is_in n)) (strict_keeps Q k (is_in n)) (related a (only P (Is a n) a h))

    all_related : (es : BareExprs) → list_all P (forward (rows es)) ≡ true
        → Refines (AllRelated Same) (fold_all (evaluator_ops R E) f es)
        (fold_all (evaluator_ops R E) g es)
    all_related no_trees h = both_ok tt
    all_related (tree e es) h =
        refines_two (λ m ms. m ∷ ms) (λ m ms. m ∷ ms) (λ a b c d q r. (q, r))
        (related e (first P (preorder e) (rows es) h))
        (all_related es (others P (preorder e) (rows es) h))

    fields_related : (fs : BareFields) → list_all P (forward (calls_values fs)) ≡ true
        → Refines (PairsRelated Same) (fold_fields (evaluator_ops R E) f fs)
        (fold_fields (evaluator_ops R E) g fs)
    fields_related no_fields h = both_ok tt
    fields_related (field j e fs) h =
        refines_two (λ m ms. (j, m) ∷ ms) (λ m ms. (j, m) ∷ ms) (λ a b c d q r. (refl, q, r))
        (related e (first P (preorder e) (calls_values fs) h))
        (fields_related fs (others P (preorder e) (calls_values fs) h))
