-- Environments, and the meaning of a tree in one.
use Rattle.std.specs.Prelude.{Option, Some, None, Result, Ok}
use Rattle.cedar_terms.specs.Types.{BareType}
use Rattle.cedar_builders.specs.BareExpr.{Text, BareExpr}
use Rattle.cedar_builders.specs.Ops.{Ops}
use Rattle.cedar_builders.specs.Fold.{fold_with}

-- an environment: the type and the tree that a name is bound to, if any
abbrev pub Env : Type 0
Env = Text → Option (BareType × BareExpr)

-- nothing is bound
abbrev pub empty : Env
empty n = None

-- an unknown as itself
abbrev pub own : {M F : Type 0} → Ops M F → Text → Option BareType → Result M F
own B n t = Ok (B.unknown_of n t)

-- an unknown that is bound means what its tree means where nothing is bound
abbrev pub bound : {M F : Type 0} → Ops M F → Option (BareType × BareExpr) → Text → Option BareType → Result M F
bound B None n t = own B n t
bound B (Some r) n t = fold_with B (own B) r.1

-- the meaning of a tree in an environment
abbrev pub fold : {M F : Type 0} → Ops M F → Env → BareExpr → Result M F
fold B env e = fold_with B (λ n t. bound B (env n) n t) e
