use Rattle.std.proofs.Common.{◌≡◌, ◌++◌, map}
use Rattle.std.specs.List.{list_all}
use Rattle.std.specs.Vec.Iter.{into_iter_items}
use Rattle.cedar_builders.specs.Keys.{keys_of, meant_pairs}
use Rattle.cedar_exprs.specs.BareExpr.{bare_expr}
use Rattle.semantics_simplify.specs.Asks.{holds_no_call}
use Rattle.semantics_simplify.specs.Simplified.{tree_of}
use Rattle.cedar_simplifier.specs.Simplified.{meaning_of}
use Rattle.cedar_simplifier.proofs.children.fields_of.Given as goal

-- the keys and the trees so far, and then those of the rest; and whether the trees so far call
-- nothing
abbrev pub invariant-loop-key : goal.invariant-loop-key
invariant-loop-key g l =
    (keys_of l.fn.pairs.items ≡ keys_of l.fields.items ++ keys_of (into_iter_items l.key-iterator))
    × (map (λ p. (p.0, tree_of g.X.ExtensionValue.canonical p.1)) (meant_pairs meaning_of l.fn.pairs.items)
    ≡ meant_pairs bare_expr l.fields.items
    ++ map (λ p. (p.0, tree_of g.X.ExtensionValue.canonical p.1))
    (meant_pairs meaning_of (into_iter_items l.key-iterator)))
    × (l.calls_nothing ≡ list_all (λ p. holds_no_call (bare_expr p.1)) l.fields.items)
