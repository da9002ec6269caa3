use Rattle.std.specs.Vec.Iter.{into_iter_items}
use Rattle.cedar_inputs.proofs.Loops.{values_next, whole_next}
use Rattle.cedar_inputs.proofs.values.each_value.Goals as goal

pub loop-name-preserved : goal.loop-name-preserved
loop-name-preserved c =
    let l = c.loop-name in
    record {
      whole =
          whole_next c.args.exprs.items l.yielded _ (into_iter_items c.next.new.self)
          (c.in-Some.name, c.in-Some.expr) l.invariant.whole c.in-Some.ensures.steps.0;
      each =
          values_next l.yielded l.values.items c.push_item.new.done.items c.in-Some.name
          c.in-Some.expr c.in_ok-value.value c.in_ok-push_item.ensures l.invariant.each
          c.in_ok-value.ensures;
    }
