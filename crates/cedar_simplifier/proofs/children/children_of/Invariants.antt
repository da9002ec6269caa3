use Rattle.std.proofs.Common.{◌≡◌, ◌++◌, map}
use Rattle.std.specs.List.{list_all}
use Rattle.std.specs.Vec.Iter.{into_iter_items}
use Rattle.cedar_exprs.specs.BareExpr.{bare_expr}
use Rattle.semantics_simplify.specs.Asks.{holds_no_call}
use Rattle.semantics_simplify.specs.Simplified.{tree_of}
use Rattle.cedar_simplifier.specs.Simplified.{meaning_of}
use Rattle.cedar_simplifier.proofs.children.children_of.Given as goal

-- the trees so far, and then those of the rest; and whether those so far call nothing
abbrev pub invariant-loop-child : goal.invariant-loop-child
invariant-loop-child g l =
    (map (tree_of g.X.ExtensionValue.canonical) (map meaning_of l.fn.children.items)
    ≡ map bare_expr l.exprs.items
    ++ map (tree_of g.X.ExtensionValue.canonical) (map meaning_of (into_iter_items l.child-iterator)))
    × (l.calls_nothing ≡ list_all (λ e. holds_no_call (bare_expr e)) l.exprs.items)
