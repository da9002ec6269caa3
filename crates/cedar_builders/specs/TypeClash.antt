-- Bound unknowns whose values have other types than their annotations say (typed substitution in Cedar's `expr.rs`).
use Rattle.std.specs.Prelude.{◌≡◌, if◌then◌else◌, Option, Some, None}
use Rattle.std.specs.Option.{option_or}
use Rattle.cedar_terms.specs.Types.{BareType}
use Rattle.cedar_terms.specs.TypeOrder.{type_eq}
use Rattle.cedar_builders.specs.BareExpr.{BareExpr, Lit, Var, Slot, Unknown, If, And, Or, UnaryApp, BinaryApp, ExtensionFunctionApp, GetAttr, HasAttr, Like, Set, Record, Is, BareExprs, no_trees, tree, BareFields, no_fields, field}
use Rattle.cedar_builders.specs.Environment.{Env}
use Rattle.cedar_builders.specs.Walks.{preorder, first_of}

-- the type that an unknown is annotated with, and the type of the value that it is bound to
abbrev pub TwoTypes : Type 0
TwoTypes = BareType × BareType

-- both types, where they differ
abbrev pub difference : BareType → BareType → Option TwoTypes
difference t s = if type_eq t s then None else Some (t, s)

-- what an annotation, if there is one, and the type of a value differ in
abbrev pub mismatch : Option BareType → BareType → Option TwoTypes
mismatch None s = None
mismatch (Some t) s = difference t s

-- what is refused of a value, by the unknown's annotation and the value's type
abbrev pub Refusals : Type 0
Refusals = Option BareType → BareType → Option TwoTypes

-- what is refused at an unknown by its binding, if it has one
abbrev pub refused_binding : Refusals → Option BareType → Option (BareType × BareExpr) → Option TwoTypes
refused_binding refuse t None = None
refused_binding refuse t (Some r) = refuse t r.0

-- the clash at a position itself
abbrev pub clash_at : Env → BareExpr → Option TwoTypes
clash_at env (Unknown n t) = refused_binding mismatch t (env n)
clash_at env e = None

-- the clash at the first position in preorder that has one
abbrev pub clash : Env → BareExpr → Option TwoTypes
clash env e = first_of (clash_at env) (preorder e)

module _ (refuse : Refusals) (env : Env) where
  abbrev mutual
    -- the first refusal at an unknown, found child by child
    pub first_refusal : BareExpr → Option TwoTypes
    first_refusal (Lit l) = None
    first_refusal (Var v) = None
    first_refusal (Slot s) = None
    first_refusal (Unknown n t) = refused_binding refuse t (env n)
    first_refusal (If a b c) = option_or (first_refusal a) (option_or (first_refusal b) (first_refusal c))
    first_refusal (And a b) = option_or (first_refusal a) (first_refusal b)
    first_refusal (Or a b) = option_or (first_refusal a) (first_refusal b)
    first_refusal (UnaryApp o a) = first_refusal a
    first_refusal (BinaryApp o a b) = option_or (first_refusal a) (first_refusal b)
    first_refusal (ExtensionFunctionApp n es) = first_refusal_of_all es
    first_refusal (GetAttr a k) = first_refusal a
    first_refusal (HasAttr a k ks) = first_refusal a
    first_refusal (Like a p) = first_refusal a
    first_refusal (Set es) = first_refusal_of_all es
    first_refusal (Record fs) = first_refusal_of_fields fs
    first_refusal (Is a n) = first_refusal a

    -- in a list of trees
    pub first_refusal_of_all : BareExprs → Option TwoTypes
    first_refusal_of_all no_trees = None
    first_refusal_of_all (tree e es) = option_or (first_refusal e) (first_refusal_of_all es)

    -- in the values of a record
    pub first_refusal_of_fields : BareFields → Option TwoTypes
    first_refusal_of_fields no_fields = None
    first_refusal_of_fields (field k e fs) = option_or (first_refusal e) (first_refusal_of_fields fs)

-- the clash at the first position in preorder is the first one found child by child
abbrev pub ClashByChildren : Type 0
ClashByChildren = (env : Env) (e : BareExpr) → clash env e ≡ first_refusal mismatch env e
