use Rattle.std.proofs.Common.{◌≡◌, ◌≤◌, ◌++◌, Some, None, length, map, slice_get, arith, ap, sym, ◌∙◌}
use Rattle.std.proofs.lemmas.List.Sorted.{length_permutation}
use Rattle.cedar_builders.specs.Walks.{children}
use Rattle.cedar_exprs.specs.BareExpr.{bare_expr}
use Rattle.cedar_conditions.specs.Conditions.{nodes}
use Rattle.cedar_conditions.specs.Nodes.{shown}
use Rattle.cedar_conditions.proofs.CallTrees.{placed_is}
use Rattle.cedar_conditions.proofs.Waiting.{at_depth, at_least, depth_at, ends, goes_on, none_at, shown_at}
use Rattle.cedar_conditions.proofs.size.nodes_of.Goals as goal

pub depth_below-requires : goal.depth_below-requires
depth_below-requires c =
    let l = c.loop-at in
    let n = c.in-Some.node in
    let some = shown_at shown l.nodes.items c.deref.result.now l.at c.get.result n
    c.get.ensures.lookup (sym c.copied.ensures ∙ c.in-Some.is) c.deref.ensures.value in
    let deep = depth_at (bare_expr c.args.expr.now) l.at (map shown l.nodes.items) (shown n) some
    l.invariant in
    omega (arith, deep, c.loop-at-test.true, c.max-most.ensures, c.saturating_mul.ensures)

pub returns-in-None : goal.returns-in-None
returns-in-None c =
    let l = c.loop-at in
    let e = bare_expr c.args.expr.now in
    let ws = map shown l.nodes.items in
    let short = none_at shown l.nodes.items c.deref.result.now l.at c.get.result
    c.get.ensures.lookup (sym c.copied.ensures ∙ c.in-None.is) c.deref.ensures.value in
    let all = ends e l.at ws short l.invariant in
    let same = length_permutation (nodes e) ws all in (
      all,
      omega (arith, same, short, c.loop-at-test.true, c.max-most.ensures, c.saturating_mul.ensures),
    )

pub loop-at-preserved : goal.loop-at-preserved
loop-at-preserved c =
    let l = c.loop-at in
    let n = c.in-Some.node in
    let e = n.expr.now in
    let ws = map shown l.nodes.items in
    let some = shown_at shown l.nodes.items c.deref.result.now l.at c.get.result n
    c.get.ensures.lookup (sym c.copied.ensures ∙ c.in-Some.is) c.deref.ensures.value in
    goes_on (bare_expr c.args.expr.now) l.at ws (map shown c.push_children.new.nodes.items) (shown n)
    some
    (c.in_ok-push_children-in-Some.ensures
    ∙ ap (λ xs. ws ++ xs) (placed_is c.depth_below.result e
    ∙ ap (λ m. at_depth m (children (bare_expr e))) c.depth_below.ensures))
    l.invariant

pub returns : goal.returns
returns c =
    let l = c.loop-at in
    let many = at_least (bare_expr c.args.expr.now) l.at (map shown l.nodes.items) l.invariant in
    omega (arith, many, c.loop-at-test.false, c.max-most.ensures, c.saturating_mul.ensures)
