use Rattle.std.proofs.Common.{◌≡◌, ap, sym, ◌∙◌, subst, ◌<◌, length}
use Rattle.cedar_builders.specs.Restricted.{is_restricted_node}
use Rattle.cedar_exprs.specs.Children.{children_left}
use Rattle.cedar_exprs.specs.FirstNodes.{found, passed}
use Rattle.cedar_exprs.specs.NotRestricted.{first_not_restricted_of}
use Rattle.cedar_exprs.specs.Walks.{children, preorder}
use Rattle.cedar_exprs.proofs.WalkSteps.{counted, fewer_below, fewer_rest}
use Rattle.cedar_exprs.proofs.NotRestrictedLemmas.{first_itself, first_below}
use Rattle.cedar_exprs.proofs.walks.not_restricted.+first_by_calls.Goals as goal

pub returns-then-not-is_restricted_node : goal.returns-then-not-is_restricted_node
returns-then-not-is_restricted_node g t c =
    first_itself c.args.expr.now (sym c.is_restricted_node.ensures ∙ c.if-not-is_restricted_node.true)

pub loop-child-init : goal.loop-child-init
loop-child-init g t c =
    let e = c.args.expr.now in
    let all : children e ≡ children_left c.into_iter-child-iterator.result = sym (ap children_left c.into_iter-child-iterator.ensures.into_iter_gives ∙ c.of-child-items.ensures.all) in (
      tt,
      tt,
      sym (ap first_not_restricted_of all) ∙ first_below e (sym c.is_restricted_node.ensures ∙ c.if-not-is_restricted_node.false),
      subst (λ es. counted es < length (preorder e)) all (fewer_below e),
    )

pub returns-in-Some-first_by_calls : goal.returns-in-Some-first_by_calls
returns-in-Some-first_by_calls g t c =
    found is_restricted_node c.in-Some.child.now _ _ _ c.in-Some.ensures.steps c.loop-child.invariant.2 _ c.in-Some-first_by_calls.ensures

pub loop-child-preserved : goal.loop-child-preserved
loop-child-preserved g t c = (
  tt,
  tt,
  passed is_restricted_node c.in-Some.child.now _ _ _ c.in-Some.ensures.steps c.loop-child.invariant.2 c.in_default.ensures,
  fewer_rest c.in-Some.child.now _ _ _ c.in-Some.ensures.steps c.loop-child.invariant.3,
)
