use Rattle.std.proofs.Common.{◌<◌, IfSome, arith, ap, subst}
use Rattle.cedar_iterative_drop.specs.Sums.{fewer, no_more, one_off, last_pair_off}
use Rattle.cedar_exprs.specs.Steps.{nodes, item_nodes, field_nodes, all_nodes}
use Rattle.cedar_exprs.proofs.drop.dropping.+dropped.Goals as goal

pub drop_below-down-smaller-in-Into : goal.drop_below-down-smaller-in-Into
drop_below-down-smaller-in-Into g t c = no_more _ _ _ _ _ c.in-Into.ensures.1 c.in-Into.ensures.0

pub drop_below-down-smaller-in-On : goal.drop_below-down-smaller-in-On
drop_below-down-smaller-in-On g t c = fewer _ _ _ _ _ (omega (arith, c.in-On.ensures)) (omega arith) (omega (arith, c.in-On.ensures, c.down.invariant))

pub drop_below-down-smaller-in-Watched : goal.drop_below-down-smaller-in-Watched
drop_below-down-smaller-in-Watched g t c = fewer _ _ _ _ _ (omega (arith, c.in-Watched.ensures)) (omega arith) (omega (arith, c.in-Watched.ensures, c.down.invariant))

pub drop_below-down-smaller : goal.drop_below-down-smaller
drop_below-down-smaller g t c =
    let less = subst (λ n. IfSome n (λ left. all_nodes left < all_nodes c.down.left)) c.in-Some.is c.in-Row.ensures.1 in
    fewer _ _ _ _ _ less (omega arith) (omega (arith, less, c.down.invariant))

pub drop_items-each-preserved : goal.drop_items-each-preserved
drop_items-each-preserved g t c = let less = one_off nodes _ _ _ c.in-Some-pop.ensures.items in omega (arith, less, c.each.invariant)

pub drop_fields-each-preserved : goal.drop_fields-each-preserved
drop_fields-each-preserved g t c = let less = last_pair_off nodes _ _ _ _ c.in-Some-pop_last.ensures.removal in omega (arith, less, c.each.invariant)

pub drop_items-drop_node-requires : goal.drop_items-drop_node-requires
drop_items-drop_node-requires g t c κs within =
    let less = one_off nodes _ _ _ c.in-Some-pop.ensures.items in
    let whole = ap (λ v. item_nodes v.items) c.in-Some.ensures in
    (omega (arith, less, whole, c.each.invariant, c.decreases), within)

pub drop_fields-drop_node-requires : goal.drop_fields-drop_node-requires
drop_fields-drop_node-requires g t c κs within =
    let less = last_pair_off nodes _ _ _ _ c.in-Some-pop_last.ensures.removal in
    let whole = ap (λ v. field_nodes v.entries) c.in-Some.ensures in
    (omega (arith, less, whole, c.each.invariant, c.decreases), within)
