use Rattle.std.proofs.Common.{map, arith}
use Rattle.std.proofs.lemmas.List.{length-map}
use Rattle.cedar_exprs.proofs.Stacks.{place_left}
use Rattle.cedar_exprs.proofs.walks.expr_iterator.push_values.Goals as goal

pub push_reserved-requires : goal.push_reserved-requires
push_reserved-requires g c =
    let l = c.loop-value in
    let entries = c.args.pairs.now.entries in
    let few = length-map entries (λ e. e.1) in
    let h = place_left l.stack.items c.args.stack.now.items c.in-Some.value.now _ _ (map (λ e. e.1) entries) _ _ c.in-Some.ensures.steps l.invariant.3 l.invariant.2 (omega (arith, few, c.args.stack.now.ok.0, c.requires)) in
    omega (arith, l.stack.ok.0, h)
