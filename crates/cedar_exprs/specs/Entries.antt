-- Counts of the entries that the stack of a walk needs.
use Rattle.std.specs.Prelude.{◌≡◌, ℕ, ◌+◌, ◌≤◌, max, List, [], ◌∷◌}
use Rattle.cedar_builders.specs.Walks.{need, need_from}
use Rattle.cedar_exprs.specs.BareExpr.{bare_expr}
use Rattle.cedar_exprs.specs.Steps.{nodes, item_nodes}
use Rattle.cedar_exprs.specs.Walks.{needs}
use Rattle.cedar_exprs.specs.declared.walks.entries.Count.{Count}
use Rattle.cedar_exprs.specs.declared.expr.Expr.{Expr}
use denote.Ref.{Bor}

-- the most entries while a walk is at a node, which has so many below it
abbrev pub entries_at : {T : Type 0} → Bor (Expr T) × ℕ → ℕ
entries_at p = p.1 + need (bare_expr p.0.now)

abbrev pub entries_left : {T : Type 0} → List (Bor (Expr T) × ℕ) → ℕ
entries_left [] = 0
entries_left (p ∷ ps) = max (entries_at p) (entries_left ps)

abbrev pub all_entries : {T : Type 0} → Count T → ℕ
all_entries c = max c.most (entries_left c.left.items)

-- the nodes that are left, with those below them
abbrev pub nodes_left : {T : Type 0} → List (Bor (Expr T) × ℕ) → ℕ
nodes_left [] = 0
nodes_left (p ∷ ps) = nodes p.0.now + nodes_left ps

-- these expressions are counted too, the first with so many entries below it, and no others are left
abbrev pub IsAdded : {T : Type 0} → Count T → ℕ → List (Expr T) → Count T → Type 0
IsAdded old below es new =
    (all_entries new ≡ max (all_entries old) (need_from below (needs es)))
    × (nodes_left new.left.items ≤ nodes_left old.left.items + item_nodes es)
