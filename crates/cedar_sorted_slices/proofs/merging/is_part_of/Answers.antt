use Rattle.std.proofs.Common.{refl, sym, ◌∙◌}
use Rattle.cedar_sorted_slices.proofs.FirstItems.{both_passed, other_passed, not_whole, nothing_to_find, nothing_to_find_in}
use Rattle.cedar_sorted_slices.proofs.merging.is_part_of.Goals as goal

pub loop-item-init : goal.loop-item-init
loop-item-init g c s t = record { ascending = s; others_ascending = t; same = (λ p. p, λ p. p) }

pub loop-item-preserved-in-Equal : goal.loop-item-preserved-in-Equal
loop-item-preserved-in-Equal g c s t =
    both_passed g.met.T.Ord.total _ _ _ _ c.in-Some.ensures.cases.0 c.in-Some-split_first.ensures.cases.0
    (sym c.cmp.ensures ∙ c.in-Equal.is) (c.loop-item.invariant s t)

pub loop-item-preserved : goal.loop-item-preserved
loop-item-preserved g c s t =
    other_passed g.met.T.Ord.total _ _ _ _ c.in-Some.ensures.cases.0 c.in-Some-split_first.ensures.cases.0
    (sym c.cmp.ensures ∙ c.in-Greater.is) (c.loop-item.invariant s t)

pub returns-in-Less : goal.returns-in-Less
returns-in-Less g c s t = (
  λ h. cc,
  λ w. absurd (not_whole g.met.T.Ord.total _ _ _ _ c.in-Some.ensures.cases.0 c.in-Some-split_first.ensures.cases.0
      (sym c.cmp.ensures ∙ c.in-Less.is) (c.loop-item.invariant s t) w),
)

pub returns-in_default-split_first : goal.returns-in_default-split_first
returns-in_default-split_first g c s t = (
  λ h. cc,
  λ w. absurd (nothing_to_find_in g.met.T.Ord.total _ _ _ _ c.in-Some.ensures.cases.0 c.in_default-split_first.ensures.cases (c.loop-item.invariant s t) w),
)

pub returns : goal.returns
returns g c s t = (λ h. nothing_to_find _ _ c.in_default.ensures.cases (c.loop-item.invariant s t), λ w. refl)
