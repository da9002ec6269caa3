-- The nodes of an expression, as a walk puts them behind one another.
use Rattle.std.specs.Prelude.{◌≡◌, ◌<◌, ◌≤◌, ◌++◌, ℕ, Bool, true, false, List, map, Option, None, Some, Result, Ok, Err, length}
use Rattle.std.specs.List.Sorted.{IsPermutation}
use Rattle.std.specs.Global.{Vec}
use Rattle.std.specs.Option.{is_some}
use Rattle.cedar_builders.specs.BareExpr.{Text, BareExpr}
use Rattle.cedar_exprs.specs.BareExpr.{bare_expr}
use Rattle.cedar_exprs.specs.declared.expr.Expr.{Expr}
use Rattle.cedar_exprs.specs.declared.expr.KindOf.{KindOf}
use Rattle.cedar_conditions.specs.Conditions.{IsOtherwise, IsRefused, IsTaken, nodes, too_many}
use Rattle.cedar_conditions.specs.declared.problem.Problem.{Problem}
use Rattle.cedar_conditions.specs.declared.size.Node.{Node}

-- a node, and how many sets and records are around it
abbrev pub shown : Node → ℕ × BareExpr
shown n = (n.depth, bare_expr n.expr.now)

-- expressions around which are so many sets and records
abbrev pub placed : ℕ → List (Expr Unit) → List (ℕ × BareExpr)
placed depth es = map (λ e. (depth, bare_expr e)) es

-- these expressions, around which are so many sets and records, are put behind the nodes
abbrev pub ArePushed : ℕ → List (Expr Unit) → List Node → List Node → Type 0
ArePushed depth es old new = map shown new ≡ map shown old ++ placed depth es

-- it is a set or a record
abbrev pub is_container_kind : {E : Type 0} → KindOf E → Bool
is_container_kind (KindOf.Set es) = true
is_container_kind (KindOf.Record es) = true
is_container_kind _ = false

-- these are the nodes of the tree of a text, in some order, or they are too many
abbrev pub AreNodesOf : Text → BareExpr → Result (Vec Node) Problem → Type 0
AreNodesOf text e (Ok ns) =
    IsPermutation (nodes e) (map shown ns.items) × (length (nodes e) < too_many text)
AreNodesOf text e (Err p) = too_many text ≤ length (nodes e)

-- a problem says why the tree of a text is refused, and none that it is not
abbrev pub IsJudged : Text → BareExpr → Option Problem → Type 0
IsJudged text e None = IsTaken text e
IsJudged text e (Some p) = IsRefused text e

-- a problem says that a call of a text is written otherwise, and none that none is
abbrev pub IsWrittenAs : Text → Option Problem → Type 0
IsWrittenAs text found = IsOtherwise text (is_some found)
