-- Folds node by node: a node gives what is made of what its children gave, and their first error is its own.
use Rattle.std.specs.Prelude.{◌≡◌, List, [], ◌∷◌, map, Option, Result, Ok, Err, refl}
use Rattle.std.proofs.Common.{sym, ap, ◌∙◌, subst}
use Rattle.cedar_terms.specs.Types.{BareType}
use Rattle.cedar_builders.specs.BareExpr.{Text, BareExpr, Lit, Var, Slot, Unknown, If, And, Or, UnaryApp, BinaryApp, ExtensionFunctionApp, GetAttr, HasAttr, Like, Set, Record, Is, BareExprs, no_trees, tree, BareFields, no_fields, field}
use Rattle.cedar_builders.specs.Ops.{Ops}
use Rattle.cedar_builders.specs.Fold.{on_one, on_two, on_three, and_then, fold_with, fold_all, fold_fields}
use Rattle.cedar_builders.specs.Walks.{members_of, values_of, children}

-- the answers at each tree of a list, or the first error
abbrev pub gathered : {M F : Type 0} → (BareExpr → Result M F) → List BareExpr → Result (List M) F
gathered f [] = Ok []
gathered f (e ∷ es) = on_two (λ m ms. m ∷ ms) (f e) (gathered f es)

-- an error of a child, the first one, is the node's
abbrev pub strict_at : {M F : Type 0} → (BareExpr → Result M F) → BareExpr → Result M F
strict_at f e = and_then (λ _. f e) (gathered f (children e))

-- what a tree gives is made of what its children give
pub record IsMadeByNodes {M F : Type 0} (f : BareExpr → Result M F) (IsMade : BareExpr → List M → Result M F → Type 0) : Type 0 where
  pub strict : (e : BareExpr) → f e ≡ strict_at f e
  pub of_children : (e : BareExpr) (ms : List M) (r : Result M F) → gathered f (children e) ≡ Ok ms → IsMade e ms r → f e ≡ r

-- the answer is made of one meaning, of two, of three
abbrev pub OfOne : {M F : Type 0} → (M → M) → List M → Result M F → Type 0
OfOne f [] r = ⊥
OfOne f (a ∷ []) r = r ≡ Ok (f a)
OfOne f (a ∷ b ∷ ms) r = ⊥

abbrev pub OfTwo : {M F : Type 0} → (M → M → M) → List M → Result M F → Type 0
OfTwo f [] r = ⊥
OfTwo f (a ∷ []) r = ⊥
OfTwo f (a ∷ b ∷ []) r = r ≡ Ok (f a b)
OfTwo f (a ∷ b ∷ c ∷ ms) r = ⊥

abbrev pub OfThree : {M F : Type 0} → (M → M → M → M) → List M → Result M F → Type 0
OfThree f [] r = ⊥
OfThree f (a ∷ []) r = ⊥
OfThree f (a ∷ b ∷ []) r = ⊥
OfThree f (a ∷ b ∷ c ∷ []) r = r ≡ Ok (f a b c)
OfThree f (a ∷ b ∷ c ∷ d ∷ ms) r = ⊥

-- the keys of fields, each with a meaning
abbrev pub keyed : {M : Type 0} → BareFields → List M → List (Text × M)
keyed no_fields ms = []
keyed (field k e fs) [] = []
keyed (field k e fs) (m ∷ ms) = (k, m) ∷ keyed fs ms

strict_one : {A M F : Type 0} (g : A → M) (r : Result A F) → on_one g r ≡ and_then (λ (_ : List A). on_one g r) (on_two (λ m ms. m ∷ ms) r (Ok []))
strict_one g (Ok a) = refl
strict_one g (Err x) = refl

strict_two : {A M F : Type 0} (g : A → A → M) (r s : Result A F) → on_two g r s ≡ and_then (λ (_ : List A). on_two g r s) (on_two (λ m ms. m ∷ ms) r (on_two (λ m ms. m ∷ ms) s (Ok [])))
strict_two g (Ok a) (Ok b) = refl
strict_two g (Ok a) (Err x) = refl
strict_two g (Err x) s = refl

strict_three : {A M F : Type 0} (g : A → A → A → M) (r s t : Result A F) → on_three g r s t ≡ and_then (λ (_ : List A). on_three g r s t) (on_two (λ m ms. m ∷ ms) r (on_two (λ m ms. m ∷ ms) s (on_two (λ m ms. m ∷ ms) t (Ok []))))
strict_three g (Ok a) (Ok b) (Ok c) = refl
strict_three g (Ok a) (Ok b) (Err x) = refl
strict_three g (Ok a) (Err x) t = refl
strict_three g (Err x) s t = refl

strict_all : {A M F : Type 0} (g : List A → Result M F) (r : Result (List A) F) → and_then g r ≡ and_then (λ (_ : List A). and_then g r) r
strict_all g (Ok a) = refl
strict_all g (Err x) = refl

strict_set : {A M F : Type 0} (g : List A → M) (r : Result (List A) F) → on_one g r ≡ and_then (λ (_ : List A). on_one g r) r
strict_set g (Ok a) = refl
strict_set g (Err x) = refl

strict_fields : {A M F : Type 0} (g : List (Text × A) → M) (r : Result (List (Text × A)) F) → on_one g r ≡ and_then (λ (_ : List A). on_one g r) (on_one (map (λ p. p.1)) r)
strict_fields g (Ok a) = refl
strict_fields g (Err x) = refl

values_two : {A F : Type 0} (k : Text) (r : Result A F) (s : Result (List (Text × A)) F) → on_two (λ m ms. m ∷ ms) r (on_one (map (λ p. p.1)) s) ≡ on_one (map (λ p. p.1)) (on_two (λ m ms. (k, m) ∷ ms) r s)
values_two k (Ok a) (Ok b) = refl
values_two k (Ok a) (Err x) = refl
values_two k (Err x) s = refl

of_one : {M F : Type 0} (g : M → M) (r : Result M F) (ms : List M) (t : Result M F) → on_two (λ m ns. m ∷ ns) r (Ok []) ≡ Ok ms → OfOne g ms t → on_one g r ≡ t
of_one g (Ok a) ms t is h = let same : a ∷ [] ≡ ms = cc in sym (subst (λ ns. OfOne g ns t) (sym same) h)
of_one g (Err x) ms t is h = cc

of_two : {M F : Type 0} (g : M → M → M) (r s : Result M F) (ms : List M) (t : Result M F) → on_two (λ m ns. m ∷ ns) r (on_two (λ m ns. m ∷ ns) s (Ok [])) ≡ Ok ms → OfTwo g ms t → on_two g r s ≡ t
of_two g (Ok a) (Ok b) ms t is h = let same : a ∷ b ∷ [] ≡ ms = cc in sym (subst (λ ns. OfTwo g ns t) (sym same) h)
of_two g (Ok a) (Err x) ms t is h = cc
of_two g (Err x) s ms t is h = cc

of_three : {M F : Type 0} (g : M → M → M → M) (r s u : Result M F) (ms : List M) (t : Result M F) → on_two (λ m ns. m ∷ ns) r (on_two (λ m ns. m ∷ ns) s (on_two (λ m ns. m ∷ ns) u (Ok []))) ≡ Ok ms → OfThree g ms t → on_three g r s u ≡ t
of_three g (Ok a) (Ok b) (Ok c) ms t is h = let same : a ∷ b ∷ c ∷ [] ≡ ms = cc in sym (subst (λ ns. OfThree g ns t) (sym same) h)
of_three g (Ok a) (Ok b) (Err x) ms t is h = cc
of_three g (Ok a) (Err x) u ms t is h = cc
of_three g (Err x) s u ms t is h = cc

keyed_of : {M F : Type 0} (fs : BareFields) (r : Result (List (Text × M)) F) (ms : List M) → on_one (map (λ p. p.1)) r ≡ Ok ms → ((ps : List (Text × M)) → r ≡ Ok ps → ps ≡ keyed fs (map (λ p. p.1) ps)) → r ≡ Ok (keyed fs ms)
keyed_of fs (Ok ps) ms is h = let same : map (λ p. p.1) ps ≡ ms = cc in ap Ok (h ps refl ∙ ap (keyed fs) same)
keyed_of fs (Err x) ms is h = cc

keys_stay : {M F : Type 0} (k : Text) (e : BareExpr) (fs : BareFields) (r : Result M F) (s : Result (List (Text × M)) F) → ((ps : List (Text × M)) → s ≡ Ok ps → ps ≡ keyed fs (map (λ p. p.1) ps))
    → (ps : List (Text × M)) → on_two (λ m ms. (k, m) ∷ ms) r s ≡ Ok ps → ps ≡ keyed (field k e fs) (map (λ p. p.1) ps)
keys_stay k e fs (Ok a) (Ok qs) h ps is = let same : (k, a) ∷ qs ≡ ps = cc in subst (λ xs. xs ≡ keyed (field k e fs) (map (λ p. p.1) xs)) same (ap (λ xs. (k, a) ∷ xs) (h qs refl))
keys_stay k e fs (Ok a) (Err x) h ps is = cc
keys_stay k e fs (Err x) s h ps is = cc

module _ {M F : Type 0} (B : Ops M F) (at_unknown : Text → Option BareType → Result M F) where
  -- what a builder makes of a node and the meanings of its children
  abbrev pub IsBuiltOf : BareExpr → List M → Result M F → Type 0
  IsBuiltOf (Lit l) ms r = r ≡ Ok (B.lit_of l)
  IsBuiltOf (Var v) ms r = r ≡ Ok (B.var_of v)
  IsBuiltOf (Slot s) ms r = r ≡ Ok (B.slot_of s)
  IsBuiltOf (Unknown n t) ms r = r ≡ at_unknown n t
  IsBuiltOf (If a b c) ms r = OfThree B.if_of ms r
  IsBuiltOf (And a b) ms r = OfTwo B.and_of ms r
  IsBuiltOf (Or a b) ms r = OfTwo B.or_of ms r
  IsBuiltOf (UnaryApp o a) ms r = OfOne (B.unary_of o) ms r
  IsBuiltOf (BinaryApp o a b) ms r = OfTwo (B.binary_of o) ms r
  IsBuiltOf (ExtensionFunctionApp n es) ms r = r ≡ B.call_of n ms
  IsBuiltOf (GetAttr a k) ms r = OfOne (λ m. B.get_of m k) ms r
  IsBuiltOf (HasAttr a k ks) ms r = OfOne (λ m. B.has_of m k ks) ms r
  IsBuiltOf (Like a p) ms r = OfOne (λ m. B.like_of m p) ms r
  IsBuiltOf (Set es) ms r = r ≡ Ok (B.set_of ms)
  IsBuiltOf (Record fs) ms r = r ≡ Ok (B.record_of (keyed fs ms))
  IsBuiltOf (Is a n) ms r = OfOne (λ m. B.is_of m n) ms r

  gathered-members_of : (es : BareExprs) → gathered (fold_with B at_unknown) (members_of es) ≡ fold_all B at_unknown es
  gathered-members_of no_trees = refl
  gathered-members_of (tree e es) = ap (on_two (λ m ms. m ∷ ms) (fold_with B at_unknown e)) (gathered-members_of es)

  gathered-values_of : (fs : BareFields) → gathered (fold_with B at_unknown) (values_of fs) ≡ on_one (map (λ p. p.1)) (fold_fields B at_unknown fs)
  gathered-values_of no_fields = refl
  gathered-values_of (field k e fs) = ap (on_two (λ m ms. m ∷ ms) (fold_with B at_unknown e)) (gathered-values_of fs) ∙ values_two k (fold_with B at_unknown e) (fold_fields B at_unknown fs)

  fold_keys : (fs : BareFields) (ps : List (Text × M)) → fold_fields B at_unknown fs ≡ Ok ps → ps ≡ keyed fs (map (λ p. p.1) ps)
  fold_keys no_fields ps is = let same : [] ≡ ps = cc in subst (λ xs. xs ≡ keyed no_fields (map (λ p. p.1) xs)) same refl
  fold_keys (field k e fs) ps is = keys_stay k e fs (fold_with B at_unknown e) (fold_fields B at_unknown fs) (fold_keys fs) ps is

  strict_fold : (e : BareExpr) → fold_with B at_unknown e ≡ strict_at (fold_with B at_unknown) e
  strict_fold (Lit l) = refl
  strict_fold (Var v) = refl
  strict_fold (Slot s) = refl
  strict_fold (Unknown n t) = refl
  strict_fold (If a b c) = strict_three B.if_of (fold_with B at_unknown a) (fold_with B at_unknown b) (fold_with B at_unknown c)
  strict_fold (And a b) = strict_two B.and_of (fold_with B at_unknown a) (fold_with B at_unknown b)
  strict_fold (Or a b) = strict_two B.or_of (fold_with B at_unknown a) (fold_with B at_unknown b)
  strict_fold (UnaryApp o a) = strict_one (B.unary_of o) (fold_with B at_unknown a)
  strict_fold (BinaryApp o a b) = strict_two (B.binary_of o) (fold_with B at_unknown a) (fold_with B at_unknown b)
  strict_fold (ExtensionFunctionApp n es) =
      strict_all (B.call_of n) (fold_all B at_unknown es) ∙ ap (and_then (λ _. and_then (B.call_of n) (fold_all B at_unknown es))) (sym (gathered-members_of es))
  strict_fold (GetAttr a k) = strict_one (λ m. B.get_of m k) (fold_with B at_unknown a)
  strict_fold (HasAttr a k ks) = strict_one (λ m. B.has_of m k ks) (fold_with B at_unknown a)
  strict_fold (Like a p) = strict_one (λ m. B.like_of m p) (fold_with B at_unknown a)
  strict_fold (Set es) =
      strict_set B.set_of (fold_all B at_unknown es) ∙ ap (and_then (λ _. on_one B.set_of (fold_all B at_unknown es))) (sym (gathered-members_of es))
  strict_fold (Record fs) =
      strict_fields B.record_of (fold_fields B at_unknown fs) ∙ ap (and_then (λ _. on_one B.record_of (fold_fields B at_unknown fs))) (sym (gathered-values_of fs))
  strict_fold (Is a n) = strict_one (λ m. B.is_of m n) (fold_with B at_unknown a)

  built_of : (e : BareExpr) (ms : List M) (r : Result M F) → gathered (fold_with B at_unknown) (children e) ≡ Ok ms → IsBuiltOf e ms r → fold_with B at_unknown e ≡ r
  built_of (Lit l) ms r is h = sym h
  built_of (Var v) ms r is h = sym h
  built_of (Slot s) ms r is h = sym h
  built_of (Unknown n t) ms r is h = sym h
  built_of (If a b c) ms r is h = of_three B.if_of (fold_with B at_unknown a) (fold_with B at_unknown b) (fold_with B at_unknown c) ms r is h
  built_of (And a b) ms r is h = of_two B.and_of (fold_with B at_unknown a) (fold_with B at_unknown b) ms r is h
  built_of (Or a b) ms r is h = of_two B.or_of (fold_with B at_unknown a) (fold_with B at_unknown b) ms r is h
  built_of (UnaryApp o a) ms r is h = of_one (B.unary_of o) (fold_with B at_unknown a) ms r is h
  built_of (BinaryApp o a b) ms r is h = of_two (B.binary_of o) (fold_with B at_unknown a) (fold_with B at_unknown b) ms r is h
  built_of (ExtensionFunctionApp n es) ms r is h = ap (and_then (B.call_of n)) (sym (gathered-members_of es) ∙ is) ∙ sym h
  built_of (GetAttr a k) ms r is h = of_one (λ m. B.get_of m k) (fold_with B at_unknown a) ms r is h
  built_of (HasAttr a k ks) ms r is h = of_one (λ m. B.has_of m k ks) (fold_with B at_unknown a) ms r is h
  built_of (Like a p) ms r is h = of_one (λ m. B.like_of m p) (fold_with B at_unknown a) ms r is h
  built_of (Set es) ms r is h = ap (on_one B.set_of) (sym (gathered-members_of es) ∙ is) ∙ sym h
  built_of (Record fs) ms r is h =
      ap (on_one B.record_of) (keyed_of fs (fold_fields B at_unknown fs) ms (sym (gathered-values_of fs) ∙ is) (fold_keys fs)) ∙ sym h
  built_of (Is a n) ms r is h = of_one (λ m. B.is_of m n) (fold_with B at_unknown a) ms r is h

  -- what a builder makes of a tree, it makes of what it made of the children
  pub fold_by_nodes : IsMadeByNodes (fold_with B at_unknown) IsBuiltOf
  fold_by_nodes = record { strict = strict_fold; of_children = built_of }
