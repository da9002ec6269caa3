use Rattle.std.proofs.Common.{ap, sym, ◌∙◌}
use Rattle.std.specs.List.{list_all}
use Rattle.std.specs.Vec.Iter.{into_iter_items}
use Rattle.std.proofs.lemmas.Bool.{and_parts}
use Rattle.cedar_values.specs.WellFormed.{well_formed}
use Rattle.cedar_evaluator.proofs.Inserted.{kept_inserted}
use Rattle.cedar_evaluator.proofs.Pairs.{put_next}
use Rattle.cedar_evaluator.proofs.rows.by_key.Goals as goal

pub loop-key-preserved : goal.loop-key-preserved
loop-key-preserved g c =
    let R = g.X.Ord.cmp in
    let es = c.loop-key.values.entries in
    let old = into_iter_items c.loop-key.key-iterator in
    let left = into_iter_items c.next.new.self in
    let k = c.in-Some.key in
    let v = c.in-Some.value in
    let steps = c.in-Some.ensures.steps.0 in
    let put = c.in_ok-insert_value.ensures in (
      λ ascending. put_next c.args.pairs.items es c.insert_value.new.map.entries old left k v ascending
          (c.loop-key.invariant.0 ascending) steps put,
      λ all.
          let kept = c.loop-key.invariant.1 all in
          let rest = ap (list_all (λ p. well_formed R p.1)) (sym steps) ∙ kept.1 in (
            ap (list_all (λ e. well_formed R e.1)) put
                ∙ kept_inserted (well_formed R) es k v kept.0 (and_parts (well_formed R v) _ rest).0,
            (and_parts (well_formed R v) _ rest).1,
          ),
    )

pub returns-clause-well_formed : goal.returns-clause-well_formed
returns-clause-well_formed g c all = (c.loop-key.invariant.1 all).0
