-- Walks over trees: the children of a tree in the order in which they are built (`ExprKind` of Cedar's `expr.rs`), its positions in two orders, and the
-- entries that a walk's stack needs (`expr_iterator.rs`).
use Rattle.std.specs.Prelude.{◌≡◌, refl, map, ℕ, ◌+◌, max, List, [], ◌∷◌, ◌++◌, Option, None}
use Rattle.std.specs.Option.{option_or}
use Rattle.std.proofs.Common.{ap}
use Rattle.cedar_builders.specs.BareExpr.{
  BareExpr,
  Lit,
  Var,
  Slot,
  Unknown,
  If,
  And,
  Or,
  UnaryApp,
  BinaryApp,
  ExtensionFunctionApp,
  GetAttr,
  HasAttr,
  Like,
  Set,
  Record,
  Is,
  BareExprs,
  no_trees,
  tree,
  BareFields,
  no_fields,
  field,
}

-- the trees of a row
abbrev pub members_of : BareExprs → List BareExpr
members_of no_trees = []
members_of (tree e es) = e ∷ members_of es

-- the values of a record, by key
abbrev pub values_of : BareFields → List BareExpr
values_of no_fields = []
values_of (field k e fs) = e ∷ values_of fs

-- the children, fields in order, the values of a record by key
abbrev pub children : BareExpr → List BareExpr
children (Lit l) = []
children (Var v) = []
children (Slot s) = []
children (Unknown n t) = []
children (If a b c) = a ∷ b ∷ c ∷ []
children (And a b) = a ∷ b ∷ []
children (Or a b) = a ∷ b ∷ []
children (UnaryApp o a) = a ∷ []
children (BinaryApp o a b) = a ∷ b ∷ []
children (ExtensionFunctionApp n es) = members_of es
children (GetAttr a k) = a ∷ []
children (HasAttr a k ks) = a ∷ []
children (Like a p) = a ∷ []
children (Set es) = members_of es
children (Record fs) = values_of fs
children (Is a n) = a ∷ []

-- what a step makes of a tree and of what it made of the children
module _ {A : Type 0} (step : BareExpr → List A → A) where
  abbrev mutual
    pub walk : BareExpr → A
    walk (Lit l) = step (Lit l) []
    walk (Var v) = step (Var v) []
    walk (Slot s) = step (Slot s) []
    walk (Unknown n t) = step (Unknown n t) []
    walk (If a b c) = step (If a b c) (walk a ∷ walk b ∷ walk c ∷ [])
    walk (And a b) = step (And a b) (walk a ∷ walk b ∷ [])
    walk (Or a b) = step (Or a b) (walk a ∷ walk b ∷ [])
    walk (UnaryApp o a) = step (UnaryApp o a) (walk a ∷ [])
    walk (BinaryApp o a b) = step (BinaryApp o a b) (walk a ∷ walk b ∷ [])
    walk (ExtensionFunctionApp n es) = step (ExtensionFunctionApp n es) (walk_all es)
    walk (GetAttr a k) = step (GetAttr a k) (walk a ∷ [])
    walk (HasAttr a k ks) = step (HasAttr a k ks) (walk a ∷ [])
    walk (Like a p) = step (Like a p) (walk a ∷ [])
    walk (Set es) = step (Set es) (walk_all es)
    walk (Record fs) = step (Record fs) (walk_fields fs)
    walk (Is a n) = step (Is a n) (walk a ∷ [])

    -- of each tree of a row
    pub walk_all : BareExprs → List A
    walk_all no_trees = []
    walk_all (tree e es) = walk e ∷ walk_all es

    -- of each value of a record
    pub walk_fields : BareFields → List A
    walk_fields no_fields = []
    walk_fields (field k e fs) = walk e ∷ walk_fields fs

module _ {A : Type 0} (step : BareExpr → List A → A) where
  walk_members : (es : BareExprs) → walk_all step es ≡ map (walk step) (members_of es)
  walk_members no_trees = refl
  walk_members (tree e es) = ap (λ xs. walk step e ∷ xs) (walk_members es)

  walk_values : (fs : BareFields) → walk_fields step fs ≡ map (walk step) (values_of fs)
  walk_values no_fields = refl
  walk_values (field k e fs) = ap (λ xs. walk step e ∷ xs) (walk_values fs)

  -- a walk makes of a tree what its step makes of it and of what the walk makes of the children
  pub walk_is : (e : BareExpr) → walk step e ≡ step e (map (walk step) (children e))
  walk_is (ExtensionFunctionApp n es) = ap (step (ExtensionFunctionApp n es)) (walk_members es)
  walk_is (Set es) = ap (step (Set es)) (walk_members es)
  walk_is (Record fs) = ap (step (Record fs)) (walk_values fs)
  walk_is e = refl

-- lists one after the other, the first first
abbrev pub forward : {A : Type 0} → List (List A) → List A
forward [] = []
forward (xs ∷ rest) = xs ++ forward rest

-- lists one after the other, the last first
abbrev pub backward : {A : Type 0} → List (List A) → List A
backward [] = []
backward (xs ∷ rest) = backward rest ++ xs

-- each position before those of its children, the first child first
abbrev pub preorder : BareExpr → List BareExpr
preorder = walk (λ e below. e ∷ forward below)

-- each position before those of its children, the last child first
abbrev pub positions : BareExpr → List BareExpr
positions = walk (λ e below. e ∷ backward below)

-- the greatest of the needs of the children, each with those before it that still wait, of which there are i at the first; 1 without children
abbrev pub need_from : ℕ → List ℕ → ℕ
need_from i [] = 1
need_from i (n ∷ ns) = max (i + n) (need_from (i + 1) ns)

-- the entries that the stack of a walk in the order of the positions needs
abbrev pub need : BareExpr → ℕ
need = walk (λ e below. need_from 0 below)

-- the first that a list gives
abbrev pub first_of : {A B : Type 0} → (A → Option B) → List A → Option B
first_of f [] = None
first_of f (x ∷ xs) = option_or (f x) (first_of f xs)
