-- What a builder makes of a tree: its children first, in field order, and the first error ends it.
use Rattle.std.specs.Prelude.{List, [], ◌∷◌, Option, Result, Ok, Err}
use Rattle.cedar_terms.specs.Types.{BareType}
use Rattle.cedar_builders.specs.BareExpr.{Text, BareExpr, Lit, Var, Slot, Unknown, If, And, Or, UnaryApp, BinaryApp, ExtensionFunctionApp, GetAttr, HasAttr, Like, Set, Record, Is, BareExprs, no_trees, tree, BareFields, no_fields, field}
use Rattle.cedar_builders.specs.Ops.{Ops}

-- a function of one answer: an error answers in its place
abbrev pub on_one : {A M F : Type 0} → (A → M) → Result A F → Result M F
on_one f (Ok a) = Ok (f a)
on_one f (Err e) = Err e

-- a function of two answers: the first error answers in its place
abbrev pub on_two : {A B M F : Type 0} → (A → B → M) → Result A F → Result B F → Result M F
on_two f (Ok a) b = on_one (f a) b
on_two f (Err e) b = Err e

-- a function of three answers: the first error answers in its place
abbrev pub on_three : {A B C M F : Type 0} → (A → B → C → M) → Result A F → Result B F → Result C F → Result M F
on_three f (Ok a) b c = on_two (f a) b c
on_three f (Err e) b c = Err e

-- a function of one answer that may fail itself
abbrev pub and_then : {A M F : Type 0} → (A → Result M F) → Result A F → Result M F
and_then f (Ok a) = f a
and_then f (Err e) = Err e

module _ {M F : Type 0} (B : Ops M F) (at_unknown : Text → Option BareType → Result M F) where
  abbrev mutual
    -- the meaning of a tree, where `at_unknown` says what an unknown means
    pub fold_with : BareExpr → Result M F
    fold_with (Lit l) = Ok (B.lit_of l)
    fold_with (Var v) = Ok (B.var_of v)
    fold_with (Slot s) = Ok (B.slot_of s)
    fold_with (Unknown n t) = at_unknown n t
    fold_with (If a b c) = on_three B.if_of (fold_with a) (fold_with b) (fold_with c)
    fold_with (And a b) = on_two B.and_of (fold_with a) (fold_with b)
    fold_with (Or a b) = on_two B.or_of (fold_with a) (fold_with b)
    fold_with (UnaryApp o a) = on_one (B.unary_of o) (fold_with a)
    fold_with (BinaryApp o a b) = on_two (B.binary_of o) (fold_with a) (fold_with b)
    fold_with (ExtensionFunctionApp n es) = and_then (B.call_of n) (fold_all es)
    fold_with (GetAttr a k) = on_one (λ m. B.get_of m k) (fold_with a)
    fold_with (HasAttr a k ks) = on_one (λ m. B.has_of m k ks) (fold_with a)
    fold_with (Like a p) = on_one (λ m. B.like_of m p) (fold_with a)
    fold_with (Set es) = on_one B.set_of (fold_all es)
    fold_with (Record fs) = on_one B.record_of (fold_fields fs)
    fold_with (Is a n) = on_one (λ m. B.is_of m n) (fold_with a)

    -- the meanings of a list of trees
    pub fold_all : BareExprs → Result (List M) F
    fold_all no_trees = Ok []
    fold_all (tree e es) = on_two (λ m ms. m ∷ ms) (fold_with e) (fold_all es)

    -- the keys of a record with the meanings of its values
    pub fold_fields : BareFields → Result (List (Text × M)) F
    fold_fields no_fields = Ok []
    fold_fields (field k e fs) = on_two (λ m ms. (k, m) ∷ ms) (fold_with e) (fold_fields fs)
