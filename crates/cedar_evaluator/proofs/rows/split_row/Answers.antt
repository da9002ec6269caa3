use Rattle.std.proofs.Common.{map, sym, subst, ap, ◌≡◌, ◌∙◌, ◌++◌}
use Rattle.std.specs.List.{list_all}
use Rattle.std.specs.Option.{option_or}
use Rattle.std.specs.Result.{result_err}
use Rattle.std.specs.Vec.Iter.{into_iter_items}
use Rattle.cedar_builders.specs.Fold.{on_one}
use Rattle.cedar_builders.specs.Walks.{first_of}
use Rattle.cedar_values.specs.BareValues.{bare_value}
use Rattle.cedar_values.specs.WellFormed.{well_formed}
use Rattle.semantics_eval.specs.Rows.{all_values}
use Rattle.cedar_evaluator.specs.Outcomes.{bare_outcome, meaning_of, placed_fault_of, unplaced}
use Rattle.cedar_evaluator.proofs.Pairs.{all_last, value_goes_on}
use Rattle.cedar_evaluator.proofs.rows.split_row.Goals as goal

pub loop-outcome-preserved : goal.loop-outcome-preserved
loop-outcome-preserved g c =
    let row = c.args.row.items in
    let made = c.loop-outcome.values.items in
    let left = into_iter_items c.next.new.self in
    let v = c.in-Ok.value in
    let pushed = c.in_ok-push-in-Ok.ensures.items in
    let kept = well_formed g.X.Ord.cmp in (
      subst (λ vs. all_values (map meaning_of row)
          ≡ on_one (λ ts. map bare_value vs ++ ts) (all_values (map meaning_of left)))
          (sym pushed)
          (value_goes_on meaning_of row made (into_iter_items c.loop-outcome.outcome-iterator) left
          c.in-Some.outcome v c.loop-outcome.invariant.0 c.in-Some.ensures.steps.0
          (ap (λ r. bare_outcome (unplaced r)) (sym c.in-Ok.ensures.placed))),
      ap (list_all kept) pushed
          ∙ all_last kept made v c.loop-outcome.invariant.1 c.in-Ok.ensures.well_formed,
      c.loop-outcome.invariant.2 ∙ ap (first_of placed_fault_of) c.in-Some.ensures.steps.0
          ∙ ap (λ r. option_or (result_err r) (first_of placed_fault_of left))
          (sym c.in-Ok.ensures.placed),
    )
