-- What two builders make of a tree is related where their operations keep the relation: one
-- induction over trees.
use Rattle.std.proofs.Common.{◌≡◌, refl, sym, ◌∙◌, ap, Bool, true, List, [], ◌∷◌, Option, Result, Ok, Err}
use Rattle.std.proofs.lemmas.Bool.{and_parts}
use Rattle.std.specs.List.{list_all}
use Rattle.cedar_names.specs.Names.{BareName}
use Rattle.cedar_names.specs.declared.slot.SlotId.{SlotId}
use Rattle.cedar_terms.specs.Literals.{BareLiteral}
use Rattle.cedar_terms.specs.Types.{BareType}
use Rattle.cedar_terms.specs.declared.ops.UnaryOp.{UnaryOp}
use Rattle.cedar_terms.specs.declared.ops.BinaryOp.{BinaryOp}
use Rattle.cedar_terms.specs.declared.pattern.PatternElem.{PatternElem}
use Rattle.cedar_terms.specs.declared.var.Var.{Var as Variable}
use Rattle.cedar_builders.specs.BareExpr.{Text, BareExpr, Lit, Var, Slot, Unknown, If, And, Or, UnaryApp, BinaryApp, ExtensionFunctionApp, GetAttr, HasAttr, Like, Set, Record, Is, BareExprs, no_trees, tree, BareFields, no_fields, field}
use Rattle.cedar_builders.specs.Ops.{Ops}
use Rattle.cedar_builders.specs.Fold.{on_one, on_two, on_three, and_then, fold_with, fold_all, fold_fields}
use Rattle.cedar_builders.specs.Walks.{children, members_of, values_of}
use Rattle.semantics_simplify.specs.Asks.{Ask, OfVar, OfSlot, OfUnknown, OfCall, passes, asks_only}
use Rattle.semantics_simplify.specs.Laws.{AsksByChildren}
use Rattle.semantics_request.proofs.Steady.{AllRelated, PairsRelated}

-- what may be where the first builder refuses a tree: that is ruled out, the second refuses it by
-- the same name, or anything
pub data Refusals : Type 0 where
  Never Alike Anyhow : Refusals

abbrev pub IsRefusal : Refusals → {M : Type 0} → BareName → Result M BareName → Type 0
IsRefusal Never x s = ⊥
IsRefusal Alike x s = s ≡ Err x
IsRefusal Anyhow x s = Unit {0}

-- both answers are meanings that are related, or the first is a refusal
pub data Related (r : Refusals) {M N : Type 0} (S : M → N → Type 0) :
    Result M BareName → Result N BareName → Type 0 where
  both_ok : {m : M} {n : N} → S m n → Related r S (Ok m) (Ok n)
  refused : {x : BareName} {s : Result N BareName} → IsRefusal r x s → Related r S (Err x) s

still_one : (r : Refusals) {M N : Type 0} (g : M → N) (x : BareName) (s : Result M BareName)
    → IsRefusal r x s → IsRefusal r x (on_one g s)
still_one Never g x s h = h
still_one Alike g x s h = ap (on_one g) h
still_one Anyhow g x s h = tt

still_two : (r : Refusals) {M N L : Type 0} (g : M → N → L) (x : BareName) (s : Result M BareName)
    (t : Result N BareName) → IsRefusal r x s → IsRefusal r x (on_two g s t)
still_two Never g x s t h = h
still_two Alike g x s t h = ap (λ u. on_two g u t) h
still_two Anyhow g x s t h = tt

still_three : (r : Refusals) {M N L K : Type 0} (g : M → N → L → K) (x : BareName)
    (s : Result M BareName) (t : Result N BareName) (u : Result L BareName) → IsRefusal r x s
    → IsRefusal r x (on_three g s t u)
still_three Never g x s t u h = h
still_three Alike g x s t u h = ap (λ v. on_three g v t u) h
still_three Anyhow g x s t u h = tt

still_then : (r : Refusals) {M N : Type 0} (g : M → Result N BareName) (x : BareName)
    (s : Result M BareName) → IsRefusal r x s → IsRefusal r x (and_then g s)
still_then Never g x s h = h
still_then Alike g x s h = ap (and_then g) h
still_then Anyhow g x s h = tt

module _ (r : Refusals) {A A' M M' : Type 0} (S : A → A' → Type 0) (P : M → M' → Type 0) where
  related_one : (f : A → M) (g : A' → M') → ((a : A) (a' : A') → S a a' → P (f a) (g a'))
      → {x : Result A BareName} {x' : Result A' BareName} → Related r S x x'
      → Related r P (on_one f x) (on_one g x')
  related_one f g h (both_ok l) = both_ok (h _ _ l)
  related_one f g h (refused {x = x} {s = s} l) = refused (still_one r g x s l)

  related_then : (f : A → Result M BareName) (g : A' → Result M' BareName)
      → ((a : A) (a' : A') → S a a' → Related r P (f a) (g a'))
      → {x : Result A BareName} {x' : Result A' BareName} → Related r S x x'
      → Related r P (and_then f x) (and_then g x')
  related_then f g h (both_ok l) = h _ _ l
  related_then f g h (refused {x = x} {s = s} l) = refused (still_then r g x s l)

module _ (r : Refusals) {A A' C C' M M' : Type 0} (S : A → A' → Type 0) (T : C → C' → Type 0)
    (P : M → M' → Type 0) where
  related_two : (f : A → C → M) (g : A' → C' → M')
      → ((a : A) (a' : A') (c : C) (c' : C') → S a a' → T c c' → P (f a c) (g a' c'))
      → {x : Result A BareName} {x' : Result A' BareName} {y : Result C BareName}
      {y' : Result C' BareName} → Related r S x x' → Related r T y y'
      → Related r P (on_two f x y) (on_two g x' y')
  related_two f g h (both_ok {m = a} {n = a'} l) k =
      related_one r T P (f a) (g a') (λ c c' i. h a a' c c' l i) k
  related_two f g h {y' = y'} (refused {x = x} {s = s} l) k = refused (still_two r g x s y' l)

module _ (r : Refusals) {A A' M M' : Type 0} (S : A → A' → Type 0) (P : M → M' → Type 0) where
  related_three : (f : A → A → A → M) (g : A' → A' → A' → M')
      → ((a : A) (a' : A') (b : A) (b' : A') (c : A) (c' : A') → S a a' → S b b' → S c c'
      → P (f a b c) (g a' b' c'))
      → {x : Result A BareName} {x' : Result A' BareName} {y : Result A BareName}
      {y' : Result A' BareName} {z : Result A BareName} {z' : Result A' BareName}
      → Related r S x x' → Related r S y y' → Related r S z z'
      → Related r P (on_three f x y z) (on_three g x' y' z')
  related_three f g h (both_ok {m = a} {n = a'} l) k i =
      related_two r S S P (f a) (g a') (λ b b' c c' p q. h a a' b b' c c' l p q) k i
  related_three f g h {y' = y'} {z' = z'} (refused {x = x} {s = s} l) k i =
      refused (still_three r g x s y' z' l)

-- the operations of two builders keep a relation, where Q says what a tree may ask for
pub record KeepOps (r : Refusals) (Q : Ask → Bool) {M : Type 0} (S : M → M → Type 0)
    (B D : Ops M BareName) : Type 0 where
  pub lit : (l : BareLiteral) → S (B.lit_of l) (D.lit_of l)
  pub var : (v : Variable) → Q (OfVar v) ≡ true → S (B.var_of v) (D.var_of v)
  pub slot : (s : SlotId) → Q (OfSlot s) ≡ true → S (B.slot_of s) (D.slot_of s)
  pub if_then :
      (a a' b b' c c' : M) → S a a' → S b b' → S c c' → S (B.if_of a b c) (D.if_of a' b' c')
  pub and : (a a' b b' : M) → S a a' → S b b' → S (B.and_of a b) (D.and_of a' b')
  pub or : (a a' b b' : M) → S a a' → S b b' → S (B.or_of a b) (D.or_of a' b')
  pub unary : (o : UnaryOp) (a a' : M) → S a a' → S (B.unary_of o a) (D.unary_of o a')
  pub binary :
      (o : BinaryOp) (a a' b b' : M) → S a a' → S b b' → S (B.binary_of o a b) (D.binary_of o a' b')
  pub call :
      (n : BareName) → Q (OfCall n) ≡ true → (ms ns : List M) → AllRelated S ms ns
      → Related r S (B.call_of n ms) (D.call_of n ns)
  pub get : (j : Text) (a a' : M) → S a a' → S (B.get_of a j) (D.get_of a' j)
  pub has :
      (j : Text) (js : List Text) (a a' : M) → S a a' → S (B.has_of a j js) (D.has_of a' j js)
  pub like : (p : List PatternElem) (a a' : M) → S a a' → S (B.like_of a p) (D.like_of a' p)
  pub set : (ms ns : List M) → AllRelated S ms ns → S (B.set_of ms) (D.set_of ns)
  pub rec : (ps qs : List (Text × M)) → PairsRelated S ps qs → S (B.record_of ps) (D.record_of qs)
  pub is : (n : BareName) (a a' : M) → S a a' → S (B.is_of a n) (D.is_of a' n)

module _ (by_children : AsksByChildren) (r : Refusals) (Q : Ask → Bool) {M : Type 0}
    (S : M → M → Type 0) (B D : Ops M BareName) (k : KeepOps r Q S B D)
    (f g : Text → Option BareType → Result M BareName)
    (at_unknown : (n : Text) (t : Option BareType) → Q (OfUnknown n t) ≡ true
    → Related r S (f n t) (g n t)) where
  -- what passes at the positions of a tree passes at its root and at those of its children
  parts : (e : BareExpr) → asks_only Q e ≡ true
      → (passes Q e ≡ true) × (list_all (asks_only Q) (children e) ≡ true)
  parts e h =
      and_parts (passes Q e) (list_all (asks_only Q) (children e)) (sym (by_children Q e) ∙ h)

  -- of the first child, and of the others
  first : (e : BareExpr) (es : List BareExpr) → list_all (asks_only Q) (e ∷ es) ≡ true
      → (asks_only Q e ≡ true) × (list_all (asks_only Q) es ≡ true)
  first e es h = and_parts (asks_only Q e) (list_all (asks_only Q) es) h

  abbrev Same : Result M BareName → Result M BareName → Type 0
  Same = Related r S

  -- an operation on one child, and on two
  of_one : (op op' : M → M) → ((m n : M) → S m n → S (op m) (op' n))
      → {x y : Result M BareName} → Same x y → Same (on_one op x) (on_one op' y)
  of_one op op' h = related_one r S S op op' h

  of_two : (op op' : M → M → M) → ((m n o p : M) → S m n → S o p → S (op m o) (op' n p))
      → {x y z w : Result M BareName} → Same x y → Same z w → Same (on_two op x z) (on_two op' y w)
  of_two op op' h = related_two r S S S op op' h

  mutual
    pub related : (e : BareExpr) → asks_only Q e ≡ true → Same (fold_with B f e) (fold_with D g e)
    related (Lit l) h = both_ok (k.lit l)
    related (Var v) h = both_ok (k.var v (parts (Var v) h).0)
    related (Slot s) h = both_ok (k.slot s (parts (Slot s) h).0)
    related (Unknown n t) h = at_unknown n t (parts (Unknown n t) h).0
    related (If a b c) h =
        let p = first a (b ∷ c ∷ []) (parts (If a b c) h).1 in
        let q = first b (c ∷ []) p.1 in
        related_three r S S B.if_of D.if_of k.if_then
        (related a p.0) (related b q.0) (related c (first c [] q.1).0)
    related (And a b) h =
        let p = first a (b ∷ []) (parts (And a b) h).1 in
        of_two B.and_of D.and_of k.and (related a p.0) (related b (first b [] p.1).0)
    related (Or a b) h =
        let p = first a (b ∷ []) (parts (Or a b) h).1 in
        of_two B.or_of D.or_of k.or (related a p.0) (related b (first b [] p.1).0)
    related (UnaryApp o a) h =
        let p = first a [] (parts (UnaryApp o a) h).1 in
        of_one (B.unary_of o) (D.unary_of o) (k.unary o) (related a p.0)
    related (BinaryApp o a b) h =
        let p = first a (b ∷ []) (parts (BinaryApp o a b) h).1 in
        of_two (B.binary_of o) (D.binary_of o) (k.binary o) (related a p.0)
        (related b (first b [] p.1).0)
    related (ExtensionFunctionApp n es) h =
        let p = parts (ExtensionFunctionApp n es) h in
        related_then r (AllRelated S) S (B.call_of n) (D.call_of n) (k.call n p.0)
        (all_related es p.1)
    related (GetAttr a j) h =
        let p = first a [] (parts (GetAttr a j) h).1 in
        of_one (λ m. B.get_of m j) (λ m. D.get_of m j) (k.get j) (related a p.0)
    related (HasAttr a j js) h =
        let p = first a [] (parts (HasAttr a j js) h).1 in
        of_one (λ m. B.has_of m j js) (λ m. D.has_of m j js) (k.has j js) (related a p.0)
    related (Like a p) h =
        let q = first a [] (parts (Like a p) h).1 in
        of_one (λ m. B.like_of m p) (λ m. D.like_of m p) (k.like p) (related a q.0)
    related (Set es) h =
        related_one r (AllRelated S) S B.set_of D.set_of k.set (all_related es (parts (Set es) h).1)
    related (Record fs) h =
        related_one r (PairsRelated S) S B.record_of D.record_of k.rec
        (fields_related fs (parts (Record fs) h).1)
    related (Is a n) h =
        let p = first a [] (parts (Is a n) h).1 in
        of_one (λ m. B.is_of m n) (λ m. D.is_of m n) (k.is n) (related a p.0)

    all_related : (es : BareExprs) → list_all (asks_only Q) (members_of es) ≡ true
        → Related r (AllRelated S) (fold_all B f es) (fold_all D g es)
    all_related no_trees h = both_ok tt
    all_related (tree e es) h =
        let p = first e (members_of es) h in
        related_two r S (AllRelated S) (AllRelated S) (λ m ms. m ∷ ms) (λ m ms. m ∷ ms)
        (λ a b c d q l. (q, l)) (related e p.0) (all_related es p.1)

    fields_related : (fs : BareFields) → list_all (asks_only Q) (values_of fs) ≡ true
        → Related r (PairsRelated S) (fold_fields B f fs) (fold_fields D g fs)
    fields_related no_fields h = both_ok tt
    fields_related (field j e fs) h =
        let p = first e (values_of fs) h in
        related_two r S (PairsRelated S) (PairsRelated S) (λ m ms. (j, m) ∷ ms)
        (λ m ms. (j, m) ∷ ms) (λ a b c d q l. (refl, q, l)) (related e p.0) (fields_related fs p.1)
