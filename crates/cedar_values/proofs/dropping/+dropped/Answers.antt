use Rattle.std.proofs.Common.{◌<◌, IfSome, arith, suc, ap, subst, ◌∙◌}
use Rattle.cedar_iterative_drop.specs.Sums.{fewer, no_more, one_off, last_pair_off}
use Rattle.cedar_values.specs.Drops.{value_nodes, row_nodes, entry_nodes, all_nodes}
use Rattle.cedar_values.proofs.Fewer.{nodes_of_kind, set_nodes, record_nodes}
use Rattle.cedar_values.proofs.dropping.+dropped.Goals as goal

pub drop_branch-down-smaller-in-Into : goal.drop_branch-down-smaller-in-Into
drop_branch-down-smaller-in-Into g t c = no_more _ _ _ _ _ c.in-Into.ensures.1 c.in-Into.ensures.0

pub drop_branch-down-smaller-in-On : goal.drop_branch-down-smaller-in-On
drop_branch-down-smaller-in-On g t c = fewer _ _ _ _ _ (omega (arith, c.in-On.ensures)) (omega arith) (omega (arith, c.in-On.ensures, c.down.invariant))

pub drop_branch-down-smaller : goal.drop_branch-down-smaller
drop_branch-down-smaller g t c =
    let less = subst (λ n. IfSome n (λ left. all_nodes left < all_nodes c.down.left)) c.in-Some.is c.in-Row.ensures.1 in
    fewer _ _ _ _ _ less (omega arith) (omega (arith, less, c.down.invariant))

pub drop_branch-drop_row-requires : goal.drop_branch-drop_row-requires
drop_branch-drop_row-requires g t c κs within = (omega (arith, c.in-Row.ensures.0, c.down.invariant, c.decreases), within)

pub drop_row-drop_members-requires : goal.drop_row-drop_members-requires
drop_row-drop_members-requires g t c κs within =
    let all = set_nodes _ c.in-Set.set c.in-Set.is ∙ ap (λ vs. suc (row_nodes vs)) c.into_row.ensures in
    (omega (arith, all, c.decreases), within)

pub drop_row-drop_pairs-requires : goal.drop_row-drop_pairs-requires
drop_row-drop_pairs-requires g t c κs within = let all = record_nodes _ c.in-Record.pairs c.in-Record.is in (omega (arith, all, c.decreases), within)

pub drop_members-each-preserved : goal.drop_members-each-preserved
drop_members-each-preserved g t c = let less = one_off value_nodes _ _ _ c.in-Some-pop.ensures.items in omega (arith, less, c.each.invariant)

pub drop_pairs-each-preserved : goal.drop_pairs-each-preserved
drop_pairs-each-preserved g t c = let less = last_pair_off value_nodes _ _ _ _ c.in-Some-pop_last.ensures.removal in omega (arith, less, c.each.invariant)

pub drop_members-drop_near-requires : goal.drop_members-drop_near-requires
drop_members-drop_near-requires g t c κs within =
    let less = one_off value_nodes _ _ _ c.in-Some-pop.ensures.items in
    let same = nodes_of_kind c.in-Some-pop.item _ c.into_kind.ensures in
    let whole = ap (λ v. row_nodes v.items) c.in-Some.ensures in
    (omega (arith, less, same, whole, c.each.invariant, c.decreases), within)

pub drop_pairs-drop_near-requires : goal.drop_pairs-drop_near-requires
drop_pairs-drop_near-requires g t c κs within =
    let less = last_pair_off value_nodes _ _ _ _ c.in-Some-pop_last.ensures.removal in
    let same = nodes_of_kind c.in-Some-pop_last.item _ c.into_kind.ensures in
    let whole = ap (λ m. entry_nodes m.entries) c.in-Some.ensures in
    (omega (arith, less, same, whole, c.each.invariant, c.decreases), within)
