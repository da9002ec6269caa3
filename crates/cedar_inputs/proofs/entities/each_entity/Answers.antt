use Rattle.std.specs.Vec.Iter.{into_iter_items}
use Rattle.cedar_inputs.proofs.Loops.{entities_next, whole_next}
use Rattle.cedar_inputs.proofs.entities.each_entity.Goals as goal

pub loop-json-preserved : goal.loop-json-preserved
loop-json-preserved c =
    let l = c.loop-json in
    record {
      whole =
          whole_next c.args.listed.items l.yielded _ (into_iter_items c.next.new.self)
          c.in-Some.json l.invariant.whole c.in-Some.ensures.steps.0;
      each =
          entities_next l.yielded l.entities.items c.push_item.new.done.items c.in-Some.json
          c.in_ok-entity_of.field-0 c.in_ok-push_item.ensures l.invariant.each
          c.in_ok-entity_of.ensures;
    }
