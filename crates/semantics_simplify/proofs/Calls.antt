-- What passes at every position, and trees that hold no call.
use Rattle.std.proofs.Common.{◌≡◌, refl, sym, ◌∙◌, ap, Bool, true, false, ◌&&◌, List, [], ◌∷◌, map, Option, Result, Ok, Err}
use Rattle.std.proofs.lemmas.Bool.{and_parts, true≢false, false≢true, or_parts}
use Rattle.std.proofs.lemmas.List.Folds.{list_all-append}
use Rattle.std.specs.List.{AllByRecursion, list_all}
use Rattle.std.specs.declared.cmp.Ordering.{Ordering}
use Rattle.cedar_names.specs.Names.{BareName}
use Rattle.cedar_terms.specs.Literals.{BareLiteral}
use Rattle.cedar_terms.specs.Types.{BareType}
use Rattle.cedar_builders.specs.BareExpr.{Text, BareExpr, Lit, Var, Slot, Unknown, If, And, Or, UnaryApp, BinaryApp, ExtensionFunctionApp, GetAttr, HasAttr, Like, Set, Record, Is, BareExprs, no_trees, tree, BareFields, no_fields, field}
use Rattle.cedar_builders.specs.Fold.{on_one, on_two, on_three, fold_with, fold_all, fold_fields}
use Rattle.cedar_builders.specs.Walks.{children, preorder, walk_all, walk_fields, forward, walk_is}
use Rattle.semantics_values.specs.BareValue.{BareCall, BareValue, LitValue, SetValue, RecordValue, ExtensionValue, BareValues, no_values, value, BarePairs, no_pairs, pair}
use Rattle.semantics_values.specs.ValueExpr.{value_expr, member_exprs, pair_exprs, has_extension, any_has_extension, any_pair_has_extension}
use Rattle.semantics_eval.specs.Outcomes.{Outcome}
use Rattle.semantics_eval.specs.Evaluator.{evaluator_ops}
use Rattle.semantics_simplify.specs.Asks.{passes, is_no_call, holds_no_call}

-- the positions of the members of a set, and of the values of a record
abbrev pub rows : BareExprs → List (List BareExpr)
rows = walk_all (λ e below. e ∷ forward below)

abbrev pub calls_values : BareFields → List (List BareExpr)
calls_values = walk_fields (λ e below. e ∷ forward below)

module _ (P : BareExpr → Bool) where
  -- every position of each list passes
  abbrev pub AllPass : List (List BareExpr) → Type 0
  AllPass = AllByRecursion (λ xs. list_all P xs ≡ true)

  pub each : (xss : List (List BareExpr)) → list_all P (forward xss) ≡ true → AllPass xss
  each [] h = tt
  each (xs ∷ rest) h =
      let k = sym (list_all-append P xs (forward rest)) ∙ h in
      ((and_parts (list_all P xs) _ k).0, each rest (and_parts (list_all P xs) _ k).1)

  pub together : (xss : List (List BareExpr)) → AllPass xss → list_all P (forward xss) ≡ true
  together [] h = refl
  together (xs ∷ rest) h =
      list_all-append P xs (forward rest) ∙ (λ i. h.0 i && together rest h.1 i)

  -- what passes at a node and behind it passes behind it
  pub behind : (e : BareExpr) (xss : List (List BareExpr)) → list_all P (e ∷ forward xss) ≡ true
      → AllPass xss
  behind e xss h = each xss (and_parts (P e) (list_all P (forward xss)) h).1

  pub only : (e a : BareExpr) → list_all P (e ∷ forward (preorder a ∷ [])) ≡ true
      → list_all P (preorder a) ≡ true
  only e a h = (behind e (preorder a ∷ []) h).0

  -- where literals, sets and records pass, a value's tree does, unless an extension value is inside
  module _ {X : Type 0} (C : X → BareCall) (lit : (l : BareLiteral) → P (Lit l) ≡ true)
      (set : (es : BareExprs) → P (Set es) ≡ true)
      (record_of : (fs : BareFields) → P (Record fs) ≡ true) where
    mutual
      pub value_passes : (t : BareValue X) → has_extension t ≡ false
          → list_all P (preorder (value_expr C t)) ≡ true
      value_passes (LitValue l) h = λ i. lit l i && true
      value_passes (SetValue ts) h =
          λ i. set (member_exprs C ts) i && together (rows (member_exprs C ts)) (values_pass ts h) i
      value_passes (RecordValue ps) h =
          λ i. record_of (pair_exprs C ps) i
          && together (calls_values (pair_exprs C ps)) (pairs_pass ps h) i
      value_passes (ExtensionValue x g) h = absurd (true≢false h)

      values_pass : (ts : BareValues X) → any_has_extension ts ≡ false
          → AllPass (rows (member_exprs C ts))
      values_pass no_values h = tt
      values_pass (value t ts) h =
          let p = or_parts (has_extension t) (any_has_extension ts) h in
          (value_passes t p.0, values_pass ts p.1)

      pairs_pass : (ps : BarePairs X) → any_pair_has_extension ps ≡ false
          → AllPass (calls_values (pair_exprs C ps))
      pairs_pass no_pairs h = tt
      pairs_pass (pair k t ps) h =
          let p = or_parts (has_extension t) (any_pair_has_extension ps) h in
          (value_passes t p.0, pairs_pass ps p.1)

-- what passes at every position passes at the root and at every position of each child
all_forward : (P : BareExpr → Bool) (xss : List (List BareExpr))
    → list_all P (forward xss) ≡ list_all (list_all P) xss
all_forward P [] = refl
all_forward P (xs ∷ rest) =
    list_all-append P xs (forward rest) ∙ ap (λ b. list_all P xs && b) (all_forward P rest)

all_mapped : {A D : Type 0} (f : A → D) (P : D → Bool) (xs : List A)
    → list_all P (map f xs) ≡ list_all (λ x. P (f x)) xs
all_mapped f P [] = refl
all_mapped f P (x ∷ xs) = ap (λ b. P (f x) && b) (all_mapped f P xs)

pub by_children : (P : BareExpr → Bool) (e : BareExpr)
    → list_all P (preorder e) ≡ (P e && list_all (λ d. list_all P (preorder d)) (children e))
by_children P e =
    ap (list_all P) (walk_is (λ d below. d ∷ forward below) e)
    ∙ ap (λ b. P e && b)
    (all_forward P (map preorder (children e)) ∙ all_mapped preorder (list_all P) (children e))

-- what passes one test passes another that it implies
pub weaker : (P Q : BareExpr → Bool) → ((e : BareExpr) → P e ≡ true → Q e ≡ true)
    → (es : List BareExpr) → list_all P es ≡ true → list_all Q es ≡ true
weaker P Q f [] h = refl
weaker P Q f (e ∷ es) h =
    let here = f e (and_parts (P e) _ h).0 in
    let rest = weaker P Q f es (and_parts (P e) _ h).1 in
    λ i. here i && rest i

-- the answer is no error
abbrev pub IsAnswer : {A F : Type 0} → Result A F → Type 0
IsAnswer (Ok a) = Unit {0}
IsAnswer (Err e) = ⊥

pub answer : {A F : Type 0} (r : Result A F) → IsAnswer r → (a : A) × (r ≡ Ok a)
answer (Ok a) h = (a, refl)
answer (Err e) h = absurd h

one_answer : {A M F : Type 0} (f : A → M) (r : Result A F) → IsAnswer r → IsAnswer (on_one f r)
one_answer f (Ok a) h = tt
one_answer f (Err e) h = h

two_answer : {A B M F : Type 0} (f : A → B → M) (r : Result A F) (s : Result B F) → IsAnswer r
    → IsAnswer s → IsAnswer (on_two f r s)
two_answer f (Ok a) s h k = one_answer (f a) s k
two_answer f (Err e) s h k = h

three_answer : {A B D M F : Type 0} (f : A → B → D → M) (r : Result A F) (s : Result B F)
    (t : Result D F) → IsAnswer r → IsAnswer s → IsAnswer t → IsAnswer (on_three f r s t)
three_answer f (Ok a) s t h k l = two_answer (f a) s t k l
three_answer f (Err e) s t h k l = h

-- a tree that holds no call is not refused, where no unknown is
module _ {X : Type 0} (R : X → X → Ordering) (E : X → X → Bool)
    (f : Text → Option BareType → Result (Outcome X) BareName)
    (sure : (n : Text) (t : Option BareType) → IsAnswer (f n t)) where
  abbrev P : BareExpr → Bool
  P = passes is_no_call

  mutual
    pub answered : (e : BareExpr) → holds_no_call e ≡ true
        → IsAnswer (fold_with (evaluator_ops R E) f e)
    answered (Lit l) h = tt
    answered (Var v) h = tt
    answered (Slot s) h = tt
    answered (Unknown n t) h = sure n t
    answered (If a b c) h =
        let p = behind P (If a b c) (preorder a ∷ preorder b ∷ preorder c ∷ []) h in
        three_answer _ _ _ _ (answered a p.0) (answered b p.1.0) (answered c p.1.1.0)
    answered (And a b) h =
        let p = behind P (And a b) (preorder a ∷ preorder b ∷ []) h in
        two_answer _ _ _ (answered a p.0) (answered b p.1.0)
    answered (Or a b) h =
        let p = behind P (Or a b) (preorder a ∷ preorder b ∷ []) h in
        two_answer _ _ _ (answered a p.0) (answered b p.1.0)
    answered (UnaryApp o a) h = one_answer _ _ (answered a (only P (UnaryApp o a) a h))
    answered (BinaryApp o a b) h =
        let p = behind P (BinaryApp o a b) (preorder a ∷ preorder b ∷ []) h in
        two_answer _ _ _ (answered a p.0) (answered b p.1.0)
    answered (ExtensionFunctionApp n es) h = absurd (false≢true h)
    answered (GetAttr a k) h = one_answer _ _ (answered a (only P (GetAttr a k) a h))
    answered (HasAttr a k ks) h = one_answer _ _ (answered a (only P (HasAttr a k ks) a h))
    answered (Like a p) h = one_answer _ _ (answered a (only P (Like a p) a h))
    answered (Set es) h =
        one_answer _ _ (all_answered es (behind P (Set es) (rows es) h))
    answered (Record fs) h =
        one_answer _ _ (fields_answered fs (behind P (Record fs) (calls_values fs) h))
    answered (Is a n) h = one_answer _ _ (answered a (only P (Is a n) a h))

    all_answered : (es : BareExprs) → AllPass P (rows es)
        → IsAnswer (fold_all (evaluator_ops R E) f es)
    all_answered no_trees h = tt
    all_answered (tree e es) h = two_answer _ _ _ (answered e h.0) (all_answered es h.1)

    fields_answered : (fs : BareFields) → AllPass P (calls_values fs)
        → IsAnswer (fold_fields (evaluator_ops R E) f fs)
    fields_answered no_fields h = tt
    fields_answered (field k e fs) h =
        two_answer _ _ _ (answered e h.0) (fields_answered fs h.1)
