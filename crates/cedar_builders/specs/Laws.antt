-- The laws of substitution, over the definitions alone.
use Rattle.std.specs.Prelude.{◌≡◌, ⊤, All, Option, Some, None, Ok}
use Rattle.std.specs.Option.{option_or}
use Rattle.cedar_terms.specs.Types.{BareType}
use Rattle.cedar_builders.specs.BareExpr.{Text, BareExpr, Unknown}
use Rattle.cedar_builders.specs.Ops.{Ops}
use Rattle.cedar_builders.specs.Environment.{Env, empty, fold}
use Rattle.cedar_builders.specs.Trees.{tree_ops, sure, substituted}
use Rattle.cedar_builders.specs.Walks.{preorder}
use Rattle.cedar_builders.specs.Restricted.{IsRestricted, BindsRestricted}

-- what is built of the substituted tree is what is built in the environment: the same meaning, or the same first error
abbrev pub BuiltAfter : {M F : Type 0} → Ops M F → Type 0
BuiltAfter B = (env : Env) (e : BareExpr) → fold B empty (sure (fold tree_ops env e)) ≡ fold B env e

-- to rebuild twice is to rebuild once
abbrev pub RebuiltTwice : Type 0
RebuiltTwice = (e : BareExpr) → fold tree_ops empty (sure (fold tree_ops empty e)) ≡ fold tree_ops empty e

-- what either environment binds; the first one's binding stands where both do
abbrev pub both : Env → Env → Env
both env1 env2 n = option_or (env1 n) (env2 n)

-- a binding whose tree is substituted
abbrev pub within : Env → Option (BareType × BareExpr) → Option (BareType × BareExpr)
within env None = None
within env (Some r) = Some (r.0, sure (fold tree_ops env r.1))

-- what either environment binds, where the first one's trees are substituted by the second
abbrev pub then : Env → Env → Env
then env1 env2 n = option_or (within env2 (env1 n)) (env2 n)

-- two substitutions are one
abbrev pub SubstitutedTwice : {M F : Type 0} → Ops M F → Type 0
SubstitutedTwice B = (env1 env2 : Env) (e : BareExpr) → fold B env2 (sure (fold tree_ops env1 e)) ≡ fold B (then env1 env2) e

-- the environment does not bind the unknown that a node is
abbrev pub LeavesNode : Env → BareExpr → Type 0
LeavesNode env (Unknown n t) = env n ≡ None
LeavesNode env e = ⊤

-- the environment binds no unknown of the tree
abbrev pub BindsNone : Env → BareExpr → Type 0
BindsNone env e = All (LeavesNode env) (preorder e)

-- the first environment binds no unknown in the trees that the second one binds
abbrev pub LeavesAlone : Env → Env → Type 0
LeavesAlone env1 env2 = (n : Text) (r : BareType × BareExpr) → env2 n ≡ Some r → BindsNone env1 r.1

-- where the second environment leaves the first one's trees alone, one after the other binds what both bind
abbrev pub ThenIsBoth : Type 0
ThenIsBoth = (env1 env2 : Env) → BindsRestricted env1 → LeavesAlone env2 env1 → then env1 env2 ≡ both env1 env2

-- and where it does not, they may differ: some tree is made another one by some two environments of restricted trees
abbrev pub ThenIsNotAlwaysBoth : Type 0
ThenIsNotAlwaysBoth =
    (env1 : Env) × (env2 : Env) × (e : BareExpr) × BindsRestricted env1 × BindsRestricted env2
    × (fold tree_ops (then env1 env2) e ≡ fold tree_ops (both env1 env2) e → ⊥)

-- the fold at the builder of trees is substitution
abbrev pub SubstitutedByFold : Type 0
SubstitutedByFold = (env : Env) (e : BareExpr) → fold tree_ops env e ≡ Ok (substituted env e)

-- a restricted tree is rebuilt as it is
abbrev pub RestrictedRebuilt : Type 0
RestrictedRebuilt = (e : BareExpr) → IsRestricted e → fold tree_ops empty e ≡ Ok e
