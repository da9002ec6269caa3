-- Steps of a drop, by the nodes that they leave.
use Rattle.std.specs.Prelude.{ℕ, ◌+◌, ◌<◌, ◌≤◌, suc, ⊤, Bool, true, false, List, Option, Some, None, IfSome}
use Rattle.std.proofs.Common.{arith}
use Rattle.std.specs.Global.{Global}
use Rattle.std.specs.declared.rc.Rc.{Rc}
use Rattle.std.specs.declared.rc.RcStr.{RcStr}
use Rattle.cedar_builders.specs.Count.{count, count_is}
use Rattle.cedar_iterative_drop.specs.Rows as rows
use Rattle.cedar_exprs.specs.BareExpr.{ExprKind, bare_expr, bare_expr_kind, kind_of}
use Rattle.cedar_exprs.specs.declared.expr.Expr.{Expr}
use Rattle.cedar_exprs.specs.declared.drop.subtrees.Subtrees.{Subtrees}
use Rattle.cedar_exprs.specs.declared.drop.subtrees.Row as below
use Rattle.cedar_exprs.specs.declared.drop.subtrees.Row.TheVariants as row
use Rattle.cedar_exprs.specs.declared.expr.KindOf.{KindOf}
use Rattle.cedar_exprs.specs.declared.drop.dropping.Remaining.{Remaining}
use Rattle.cedar_exprs.specs.declared.drop.dropping.Step.{Step}
use Rattle.cedar_exprs.specs.declared.drop.dropping.Step.TheVariants.{Into, On, Watched, Row, End}

-- the nodes of an expression, of a kind, of a node that may wait, of the items of a row, of the values of a record
abbrev pub nodes : {T : Type 0} → Expr T → ℕ
nodes e = count (bare_expr e)

abbrev pub kind_nodes : {T : Type 0} → ExprKind T → ℕ
kind_nodes k = count (bare_expr_kind k)

abbrev pub if_node : {T : Type 0} → Option (Rc (Expr T) Global) → ℕ
if_node None = 0
if_node (Some e) = nodes e.value

abbrev pub item_nodes : {T : Type 0} → List (Expr T) → ℕ
item_nodes = rows.row_nodes nodes

abbrev pub field_nodes : {T : Type 0} → List (RcStr Global × Expr T) → ℕ
field_nodes = rows.pair_nodes nodes

-- the nodes of a row
abbrev pub row_nodes : {T : Type 0} → below.Row T → ℕ
row_nodes (row.Items es) = item_nodes es.value.items
row_nodes (row.Fields es) = field_nodes es.value.entries

-- the nodes of a node with this below it, and of what may wait
abbrev pub below_nodes : {T : Type 0} → Subtrees T → ℕ
below_nodes Subtrees.Nothing = 1
below_nodes (Subtrees.One a) = suc (nodes a.value)
below_nodes (Subtrees.Two a b) = suc (nodes a.value + nodes b.value)
below_nodes (Subtrees.Three a b c) = suc (nodes a.value + (nodes b.value + nodes c.value))
below_nodes (Subtrees.Row r) = suc (row_nodes r)

abbrev pub if_row : {T : Type 0} → Option (Subtrees T) → ℕ
if_row = rows.waiting_nodes below_nodes

-- an expression has a node
pub has_nodes : {T : Type 0} (e : Expr T) → 0 < nodes e
has_nodes e = let is = count_is (bare_expr e) in omega (arith, is)

-- whether nothing stands below a node of this kind
abbrev pub is_leaf : {E : Type 0} → KindOf E → Bool
is_leaf (KindOf.Lit l) = true
is_leaf (KindOf.Var v) = true
is_leaf (KindOf.Slot s) = true
is_leaf (KindOf.Unknown u) = true
is_leaf _ = false

-- the nodes of all that is left
abbrev pub all_nodes : {T : Type 0} → Remaining T → ℕ
all_nodes l = below_nodes l.below + (if_node l.waiting + if_row l.rows)

-- what stands below a node of this kind
abbrev pub subtrees_of : {T : Type 0} → ExprKind T → Subtrees T
subtrees_of (KindOf.Lit l) = Subtrees.Nothing
subtrees_of (KindOf.Var v) = Subtrees.Nothing
subtrees_of (KindOf.Slot s) = Subtrees.Nothing
subtrees_of (KindOf.Unknown u) = Subtrees.Nothing
subtrees_of (KindOf.If a b c) = Subtrees.Three a b c
subtrees_of (KindOf.And a b) = Subtrees.Two a b
subtrees_of (KindOf.Or a b) = Subtrees.Two a b
subtrees_of (KindOf.UnaryApp o a) = Subtrees.One a
subtrees_of (KindOf.BinaryApp o a b) = Subtrees.Two a b
subtrees_of (KindOf.ExtensionFunctionApp n es) = Subtrees.Row (row.Items es)
subtrees_of (KindOf.GetAttr a k) = Subtrees.One a
subtrees_of (KindOf.HasAttr a ks) = Subtrees.One a
subtrees_of (KindOf.Like a p) = Subtrees.One a
subtrees_of (KindOf.Set es) = Subtrees.Row (row.Items es)
subtrees_of (KindOf.Record es) = Subtrees.Row (row.Fields es)
subtrees_of (KindOf.Is a n) = Subtrees.One a

-- the same, where something does
abbrev pub unless_nothing : {T : Type 0} → Subtrees T → Option (Subtrees T)
unless_nothing Subtrees.Nothing = None
unless_nothing (Subtrees.One a) = Some (Subtrees.One a)
unless_nothing (Subtrees.Two a b) = Some (Subtrees.Two a b)
unless_nothing (Subtrees.Three a b c) = Some (Subtrees.Three a b c)
unless_nothing (Subtrees.Row r) = Some (Subtrees.Row r)

-- what stands below an expression, if it is no leaf
abbrev pub branch_of : {T : Type 0} → Expr T → Option (Subtrees T)
branch_of e = unless_nothing (subtrees_of (kind_of e))

-- from k nodes, of n in all: no more nodes and a smaller part, or fewer nodes
abbrev pub IsStep : {T : Type 0} → ℕ → ℕ → Step T → Type 0
IsStep k n (Into left) = (below_nodes left.below < k) × (all_nodes left ≤ n)
IsStep k n (On left) = all_nodes left < n
IsStep k n (Watched rest left) = (all_nodes left + below_nodes rest ≤ n) × (0 < all_nodes left) × (0 < below_nodes rest)
IsStep k n (Row r next) = (row_nodes r < n) × IfSome next (λ left. all_nodes left < n)
IsStep k n End = ⊤
