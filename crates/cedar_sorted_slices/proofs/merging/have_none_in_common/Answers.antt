use Rattle.std.proofs.Common.{refl, sym, ◌∙◌}
use Rattle.cedar_sorted_slices.proofs.FirstItems.{item_apart, other_apart, not_apart, none_left, no_other_left}
use Rattle.cedar_sorted_slices.proofs.merging.have_none_in_common.Goals as goal

pub loop-item-init : goal.loop-item-init
loop-item-init g c s t = record { ascending = s; others_ascending = t; same = (λ p. p, λ p. p) }

pub loop-item-preserved-in-Less : goal.loop-item-preserved-in-Less
loop-item-preserved-in-Less g c s t =
    item_apart g.met.T.Ord.total _ _ _ _ c.in-Some.ensures.cases.0 c.in-Some-split_first.ensures.cases.0
    (sym c.cmp.ensures ∙ c.in-Less.is) (c.loop-item.invariant s t)

pub loop-item-preserved : goal.loop-item-preserved
loop-item-preserved g c s t =
    other_apart g.met.T.Ord.total _ _ _ _ c.in-Some.ensures.cases.0 c.in-Some-split_first.ensures.cases.0
    (sym c.cmp.ensures ∙ c.in-Greater.is) (c.loop-item.invariant s t)

pub returns-in-Equal : goal.returns-in-Equal
returns-in-Equal g c s t = (
  λ h. cc,
  λ w. absurd (not_apart g.met.T.Ord.total _ _ _ _ c.in-Some.ensures.cases.0 c.in-Some-split_first.ensures.cases.0
      (sym c.cmp.ensures ∙ c.in-Equal.is) (c.loop-item.invariant s t) w),
)

pub returns-in_default-split_first : goal.returns-in_default-split_first
returns-in_default-split_first g c s t = (λ h. no_other_left _ _ c.in_default-split_first.ensures.cases (c.loop-item.invariant s t), λ w. refl)

pub returns : goal.returns
returns g c s t = (λ h. none_left _ _ c.in_default.ensures.cases (c.loop-item.invariant s t), λ w. refl)
