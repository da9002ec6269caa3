use Rattle.std.proofs.Common.{rules, sym, ◌∙◌}
use Rattle.std.proofs.lemmas.List.Sorted.{answers_always}
use Rattle.std.specs.Ordering.{is_lt}
use Rattle.cedar_sorted_slices.specs.Ascending.{sorted_of_ascends, ascends_of_sorted}
use Rattle.cedar_sorted_slices.proofs.Neighbours.{answers_ascends}
use Rattle.cedar_sorted_slices.proofs.is_ascending.Goals as goal

pub returns-clause-value : goal.returns-clause-value
returns-clause-value g c = answers_ascends g.T.Ord.cmp c.args.items.now c.is_sorted_by.result (c.is_sorted_by.ensures.cases (λ x y. is_lt (g.T.Ord.cmp x y)) (answers_always _ _ _ (λ f a r h w. search rules)))

pub returns-clause-ascending : goal.returns-clause-ascending
returns-clause-ascending g c =
    let R = g.T.Ord.cmp in
    let xs = c.args.items.now in
    let is = returns-clause-value g c in (
      λ h. sorted_of_ascends g.met.T.Ord.total xs (sym is ∙ h),
      λ h. is ∙ ascends_of_sorted R xs h,
    )
