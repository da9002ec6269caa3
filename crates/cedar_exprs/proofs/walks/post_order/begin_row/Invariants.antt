use Rattle.std.proofs.Common.{◌≡◌, ◌++◌, List, Ok, map, length}
use Rattle.cedar_builders.specs.BareExpr.{BareExpr}
use Rattle.cedar_builders.specs.NodeByNode.{gathered}
use Rattle.cedar_exprs.specs.BareExpr.{bare_expr}
use Rattle.cedar_exprs.proofs.walks.post_order.begin_row.Given as goal

-- the leaves so far gave what was put onto the results, and the rest is left
abbrev pub invariant-leaves : goal.invariant-leaves
invariant-leaves g l =
    (first : List BareExpr) × (made : List _) × (map bare_expr l.row ≡ first ++ map bare_expr l.left)
    × (gathered (g.W.PostOrder.answer l.walk) first ≡ Ok (map g.W.PostOrder.meaning_of made)) × (l.done.items ≡ l.initial.done.items ++ made)

abbrev pub decreases-leaves : goal.decreases-leaves
decreases-leaves g l = length l.left
