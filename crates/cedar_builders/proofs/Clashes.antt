-- The first clash in preorder is found child by child.
use Rattle.std.proofs.Common.{◌≡◌, List, ◌∷◌, Option, Some, None, refl, ap, ◌∙◌}
use Rattle.std.specs.Option.{option_or}
use Rattle.cedar_builders.specs.BareExpr.{BareExpr, Lit, Var, Slot, Unknown, If, And, Or, UnaryApp, BinaryApp, ExtensionFunctionApp, GetAttr, HasAttr, Like, Set, Record, Is, BareExprs, no_trees, tree, BareFields, no_fields, field}
use Rattle.cedar_builders.specs.Environment.{Env}
use Rattle.cedar_builders.specs.Walks.{walk, walk_all, walk_fields, forward, first_of}
use Rattle.cedar_builders.specs.TypeClash.{TwoTypes, mismatch, clash_at, first_refusal, first_refusal_of_all, first_refusal_of_fields, ClashByChildren}
use Rattle.cedar_builders.proofs.Walks.{same_walks, first_of-forward}

or_none : {A : Type 0} → (a : Option A) → option_or a None ≡ a
or_none (Some x) = refl
or_none None = refl

module _ (env : Env) where
  -- the clash of a node, else the first one of its children
  abbrev clash_step : BareExpr → List (Option TwoTypes) → Option TwoTypes
  clash_step e below = option_or (clash_at env e) (first_of (λ r. r) below)

  mutual
    walked : (e : BareExpr) → walk clash_step e ≡ first_refusal mismatch env e
    walked (Lit l) = refl
    walked (Var v) = refl
    walked (Slot s) = refl
    walked (Unknown n t) = or_none (clash_at env (Unknown n t))
    walked (If a b c) = simp (or_none, walked a, walked b, walked c)
    walked (And a b) = simp (or_none, walked a, walked b)
    walked (Or a b) = simp (or_none, walked a, walked b)
    walked (UnaryApp o a) = simp (or_none, walked a)
    walked (BinaryApp o a b) = simp (or_none, walked a, walked b)
    walked (ExtensionFunctionApp n es) = walked_all es
    walked (GetAttr a k) = simp (or_none, walked a)
    walked (HasAttr a k ks) = simp (or_none, walked a)
    walked (Like a p) = simp (or_none, walked a)
    walked (Set es) = walked_all es
    walked (Record fs) = walked_fields fs
    walked (Is a n) = simp (or_none, walked a)

    walked_all : (es : BareExprs) → first_of (λ r. r) (walk_all clash_step es) ≡ first_refusal_of_all mismatch env es
    walked_all no_trees = refl
    walked_all (tree e es) = rw (walked e, walked_all es)

    walked_fields : (fs : BareFields) → first_of (λ r. r) (walk_fields clash_step fs) ≡ first_refusal_of_fields mismatch env fs
    walked_fields no_fields = refl
    walked_fields (field k e fs) = rw (walked e, walked_fields fs)

pub clash_by_children : ClashByChildren
clash_by_children env e =
    same_walks (first_of (clash_at env)) (λ d below. d ∷ forward below) (clash_step env) (λ d below. ap (option_or (clash_at env d)) (first_of-forward (clash_at env) below)) e
    ∙ walked env e
