use Rattle.std.proofs.Common.{◌≡◌, ◌+◌, ◌≤◌, ◌++◌, map, length, vec_len, vec_capacity}
use Rattle.std.specs.Vec.Iter.{into_iter_items}
use Rattle.cedar_builders.specs.Keys.{keys_of}
use Rattle.cedar_builders.specs.Rebuilding.{all_new_or}
use Rattle.cedar_exprs.specs.BareExpr.{bare_expr}
use Rattle.cedar_exprs.specs.Substituting.{new_tree}
use Rattle.cedar_exprs.proofs.substitution.substitute.substitute_values.Given as goal

-- the pairs so far, and what the rest is to be, make the whole; there is room for the rest
abbrev pub invariant-loop-key : goal.invariant-loop-key
invariant-loop-key g l =
    (keys_of l.done.items ++ keys_of l.key-iterator ≡ keys_of l.pairs.entries)
    × (map bare_expr (map (λ p. p.1) l.done.items) ++ all_new_or (map (λ p. bare_expr p.1) l.key-iterator) (map (new_tree g.V.SubstituteValue.bare_expr_of) (into_iter_items l.rest))
    ≡ all_new_or (map (λ p. bare_expr p.1) l.pairs.entries) (map (new_tree g.V.SubstituteValue.bare_expr_of) (into_iter_items l.initial.rest)))
    × (length (into_iter_items l.rest) ≡ length l.key-iterator)
    × (vec_len l.done + length (into_iter_items l.rest) ≤ vec_capacity l.done)
