use Rattle.std.proofs.Common.{◌≡◌, ◌+◌, ◌≤◌, ◌++◌, map, length, drop, vec_len, vec_capacity}
use Rattle.std.specs.Vec.Iter.{into_iter_items}
use Rattle.cedar_builders.specs.Rebuilding.{all_new_or}
use Rattle.cedar_exprs.specs.BareExpr.{bare_expr}
use Rattle.cedar_exprs.specs.Substituting.{new_tree}
use Rattle.cedar_exprs.proofs.substitution.substitute.substitute_members.Given as goal

-- the members so far, and what the rest is to be, make the whole; there is room for the rest
abbrev pub invariant-loop-member : goal.invariant-loop-member
invariant-loop-member g l =
    (map bare_expr l.done.items ++ all_new_or (map bare_expr (drop l.member-index l.member-items)) (map (new_tree g.V.SubstituteValue.bare_expr_of) (into_iter_items l.rest))
    ≡ all_new_or (map bare_expr l.member-items) (map (new_tree g.V.SubstituteValue.bare_expr_of) (into_iter_items l.initial.rest)))
    × (length (into_iter_items l.rest) ≡ length (drop l.member-index l.member-items))
    × (vec_len l.done + length (into_iter_items l.rest) ≤ vec_capacity l.done)
