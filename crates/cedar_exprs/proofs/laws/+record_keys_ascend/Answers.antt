use Rattle.std.proofs.Common.{◌≡◌, ap, sym, ◌∙◌, subst, ◌<◌, length}
use Rattle.cedar_exprs.specs.Children.{children_left}
use Rattle.cedar_exprs.specs.Walks.{children, preorder}
use Rattle.cedar_exprs.proofs.WalkSteps.{counted, fewer_below, fewer_rest}
use Rattle.cedar_exprs.proofs.RecordKeys.{AscendIn, ascends, ascends_with}
use Rattle.cedar_exprs.proofs.laws.+record_keys_ascend.Goals as goal

pub loop-child-init : goal.loop-child-init
loop-child-init g t c =
    let e = c.args.expr.now in
    let all : children e ≡ children_left c.into_iter-child-iterator.result = sym (ap children_left c.into_iter-child-iterator.ensures.into_iter_gives ∙ c.of-child-items.ensures.all) in (
      tt,
      tt,
      (λ h. ascends e c.node_keys_ascend.ensures (subst AscendIn (sym all) h)),
      subst (λ es. counted es < length (preorder e)) all (fewer_below e),
    )

pub loop-child-preserved : goal.loop-child-preserved
loop-child-preserved g t c = (
  tt,
  tt,
  (λ h. c.loop-child.invariant.2 (ascends_with c.in-Some.child.now _ _ c.in-Some.ensures.steps c.record_keys_ascend.ensures h)),
  fewer_rest c.in-Some.child.now _ _ _ c.in-Some.ensures.steps c.loop-child.invariant.3,
)

pub returns : goal.returns
returns g t c = c.loop-child.invariant.2 (subst AscendIn (sym c.in-None.ensures.steps.0) tt)
